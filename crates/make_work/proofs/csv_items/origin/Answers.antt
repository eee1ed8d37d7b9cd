use Rattle.std.proofs.Common.{◌<◌, ◌↔◌, ℕ, List, Option, Some, None, Err, refl, subst}
use Rattle.std.proofs.Common.{◌≡◌, Bool, true, false, cond, sym, ap, ◌∙◌}
use Rattle.std.specs.Option.{IsSomeAnd}
use Rattle.std.specs.Result.{IsErrOf}
use Rattle.rtr_base.specs.Addresses.{BreaksMaxLen, PrefixParts, width}
use Rattle.rtr_base.specs.ReadTexts.{IsAsnText, IsLenText, IsPrefixText}
use Rattle.rtr_base.specs.declared.addr.MaxLenError.{MaxLenError}
use Rattle.rtr_base.specs.declared.addr.MaxLenError.TheVariants.{Overflow, Underflow}
use Rattle.csv.specs.Records.{fields_of}
use Rattle.make_work.specs.CsvColumns.{field}
use Rattle.make_work.specs.CsvRows.{IsMaxLengthField, IsPlain, RefusesRow, is_uri}
use Rattle.make_work.specs.declared.csv_columns.Columns.{Columns}
use Rattle.make_work.specs.declared.item.Reason.TheVariants.{Asn, UriColumn}
use Rattle.make_work.proofs.csv_items.origin.Goals as goal

-- a max length that doesn't go with the prefix is given, and breaks the rule that is named
rule_broken : {T : Type 0} (m : Option ℕ) (p : PrefixParts) (e : MaxLenError) (text : List ℕ) →
    IsMaxLengthField text m →
    (IsErrOf {T = T} (Err e) Overflow ↔ IsSomeAnd m (λ x. width p.family < x)) →
    (IsErrOf {T = T} (Err e) Underflow ↔ IsSomeAnd m (λ x. x < p.len)) →
    (x : ℕ) × IsLenText text x × BreaksMaxLen p x e
rule_broken None p Overflow text is over under = absurd (over.0 refl)
rule_broken None p Underflow text is over under = absurd (under.0 refl)
rule_broken (Some x) p Overflow text is over under = (x, is, over.0 refl)
rule_broken (Some x) p Underflow text is over under = (x, is, under.0 refl)

-- a text that is no ASN is refused as such, or as the name of a column of URIs
no_asn : (columns : Columns) (row : List (List ℕ)) (b : Bool) → IsPlain columns row →
    ((n : ℕ) → ¬ IsAsnText (field row 0) n) →
    is_uri (field row 0) ≡ b → RefusesRow columns row (cond b UriColumn Asn)
no_asn columns row true plain h e = (plain, h, e)
no_asn columns row false plain h e = (plain, h, e)

pub returns-in-Err : goal.returns-in-Err
returns-in-Err c =
    let row = fields_of c.args.row.now in
    let why = c.no_asn.ensures
    ∙ ap (λ text. cond (is_uri text) UriColumn Asn) c.field-in-Err.ensures in
    let refused =
    subst (λ text. (n : ℕ) → ¬ IsAsnText text n) c.field.ensures c.in-Err.ensures.value in
    subst (RefusesRow c.args.columns row) (sym why)
    (no_asn c.args.columns row _ (
      sym c.has_fields.ensures ∙ c.if-not-has_fields.false,
      sym c.some_plus.ensures ∙ c.if-some_plus.false,
    ) refused refl)

pub returns-in-Err-new : goal.returns-in-Err-new
returns-in-Err-new c =
    let m = c.in-Ok-max_length.max_length in
    let p = c.in-Ok-parse.prefix in
    let (x, len, breaks) = rule_broken m p c.in-Err-new.error _
    (subst (λ text. IsMaxLengthField text m) c.field-3.ensures c.in-Ok-max_length.ensures)
    c.in-Err-new.ensures.overflow c.in-Err-new.ensures.underflow in (
      (
        (
          sym c.has_fields.ensures ∙ c.if-not-has_fields.false,
          sym c.some_plus.ensures ∙ c.if-some_plus.false,
        ),
        c.in-Ok.asn,
        subst (λ text. IsAsnText text c.in-Ok.asn) c.field.ensures c.in-Ok.ensures.value,
      ),
      p,
      x,
      subst (λ text. IsPrefixText text p) c.field-2.ensures c.in-Ok-parse.ensures.value,
      len,
      breaks,
    )

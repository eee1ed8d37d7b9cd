-- What is refused as a prefix is none.
use Rattle.std.proofs.Common.{ℕ, List}
use Rattle.std.proofs.Common.{subst}
use Rattle.std.specs.Net.Grammar.{IsIpText}
use Rattle.rtr_base.specs.Addresses.{BreaksPrefix, PrefixParts}
use Rattle.rtr_base.specs.ReadTexts.{IsLenText, IsPrefixText}
use Rattle.rtr_base.specs.ReadTexts.{RefusesPrefix}
use Rattle.rtr_base.specs.declared.parse.ParsePrefixError.{ParsePrefixError}
use Rattle.rtr_base.specs.declared.parse.ParsePrefixError.TheVariants as prefixes
use Rattle.rtr_base.proofs.ReadBack.{form_unique, not_broken, split_not_lacks, split_unique}

-- ---- one prefix at most

pub no_prefix : (text : List ℕ) (p : PrefixParts) (e : ParsePrefixError) → RefusesPrefix text e →
    ¬ IsPrefixText text p
no_prefix text p prefixes.MissingLen r h = split_not_lacks 47 _ _ _ h.form.split r
no_prefix text p (prefixes.Addr e) (front, back, split, none) h =
    let cut = split_unique 47 text h.form.front h.form.back front back h.form.split split in
    none h.form.ip (subst (λ (t : List ℕ). IsIpText t h.form.ip) cut.0 h.form.address)
no_prefix text p (prefixes.Len e) (front, back, split, ip, none) h =
    let cut = split_unique 47 text h.form.front h.form.back front back h.form.split split in
    none p.len (subst (λ (t : List ℕ). IsLenText t p.len) cut.1 h.form.len)
no_prefix text p (prefixes.Prefix e) (q, form, broken) h =
    not_broken p e h.valid
    (subst (λ (x : PrefixParts). BreaksPrefix x e) (form_unique text q p form h.form) broken)

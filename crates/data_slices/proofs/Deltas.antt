-- The parts of a delta, one after the other.
use Rattle.std.proofs.Common.{◌≡◌, ℕ, ◌+◌, ◌-◌, List, [], ◌∷◌, ◌++◌, length, drop}
use Rattle.std.proofs.Common.{Option, Some, None, refl, sym, ap, subst, ◌∙◌, append_assoc}
use Rattle.std.proofs.Common.{append-nil, arith}
use Rattle.std.proofs.lemmas.List.{length-append, length-drop, drop-drop}
use borrow.Rule.Slice.PartMut.{put_mid}
use Rattle.rtr_base.specs.declared.action.Action.{Action}
use Rattle.rtr_base.specs.declared.action.Action.TheVariants.{Announce, Withdraw}
use Rattle.rtr_units.specs.End.{EndMeaning, end_list}
use Rattle.rtr_payload.specs.Payloads.{Payload}
use Rattle.rtr_payload.specs.Units.{form_of}
use Rattle.unit_views.specs.Placing.{Places}
use Rattle.data_memory.specs.Changes.{announcements, changes, withdrawals}
use Rattle.data_memory.specs.Data.{Change}
use Rattle.data_memory.specs.Deltas.{change_forms, unit_of}
use Rattle.data_slices.specs.Canonical.{HoldsData, PlacesFront}
use Rattle.data_slices.specs.Delta.{delta_form}
use Rattle.data_slices.specs.PrivateOrder.{PlacesDelta, PlacesMissing, PlacesTail}
use Rattle.data_slices.proofs.Merging.{Written, more, parts_forms, put_rest, rest_of}
use Rattle.data_slices.proofs.OneData.{one_data}

pub forms_append : (v : ℕ) (cs ds : List Change) →
    change_forms v (cs ++ ds) ≡ change_forms v cs ++ change_forms v ds
forms_append v [] ds = refl
forms_append v (c ∷ cs) ds =
    ap (λ l. form_of (unit_of v c) ++ l) (forms_append v cs ds)
    ∙ sym (append_assoc (form_of (unit_of v c)) (change_forms v cs) (change_forms v ds))

changes_parts : (v : ℕ) (o n : List Payload) (last : List ℕ) →
    change_forms v (changes o n) ++ last ≡
    parts_forms Announce v n o ++ (parts_forms Withdraw v o n ++ last)
changes_parts v o n last =
    ap (λ l. l ++ last) (forms_append v (announcements o n) (withdrawals o n))
    ∙ append_assoc (change_forms v (announcements o n)) (change_forms v (withdrawals o n)) last

-- ---- pieces

-- a front of a piece is one of a longer piece
pub longer : (x y before after : List ℕ) → PlacesFront None x before after →
    PlacesFront None (x ++ y) before after
longer x y before after (less, (front, back, split, out)) = (
  omega (arith, less, length-append x y),
  (
    front,
    back ++ y,
    ap (λ l. l ++ y) split ∙ append_assoc front back y,
    out,
  ),
)

pub joined_none : (x y before now part : List ℕ) (n : ℕ) → PlacesFront (Some n) x before now →
    PlacesFront None y (rest_of n now) part →
    PlacesFront None (x ++ y) before (put_mid n (length now - n) now part)
joined_none x y before now part n (is, le, out) (less, (front, back, split, wrote)) =
    let w : Written x before now n = record { size = is; fits = le; output = out } in
    let (rest, put) = put_rest x before now n w part in
    let sum : n + length front ≡ length (x ++ front) = omega (arith, is, length-append x front) in (
      omega (
        arith,
        less,
        ap length rest,
        length-drop n before,
        le,
        is,
        length-append x y,
      ),
      (
        x ++ front,
        back,
        ap (λ l. x ++ l) split ∙ sym (append_assoc x front back),
        put
            ∙ ap (λ l. x ++ l)
            (wrote ∙ ap (λ l. front ++ drop (length front) l) rest
            ∙ ap (λ l. front ++ l) (drop-drop (length front) n before))
            ∙ sym (append_assoc x front (drop (n + length front) before))
            ∙ ap (λ (k : ℕ). (x ++ front) ++ drop k before) sum,
      ),
    )

pub joined : (x y before now part : List ℕ) (n k : ℕ) → PlacesFront (Some n) x before now →
    PlacesFront (Some k) y (rest_of n now) part →
    PlacesFront (Some (n + k)) (x ++ y) before (put_mid n (length now - n) now part)
joined x y before now part n k (is, le, out) placed =
    let w : Written x before now n = record { size = is; fits = le; output = out } in
    let v = more x before now n w y part k placed in
    (v.size, v.fits, v.output)

-- ---- a delta

-- the data of two calls are the same
parts_same : (v : ℕ) (a : Action) (result : Option ℕ) (these those before after : List ℕ)
    (d e : EndMeaning) (ps qs : List Payload) → HoldsData these ps d → HoldsData those qs e →
    PlacesMissing v a result these those before after →
    PlacesFront result (parts_forms a v ps qs) before after
parts_same v a result these those before after d e ps qs h j m =
    let s = one_data these m.ps ps m.d d m.held h in
    let t = one_data those m.qs qs m.e e m.others j in
    subst (λ l. PlacesFront result l before after) (λ i. parts_forms a v (s.0 i) (t.0 i)) m.places

module _ (old new : List ℕ) (v : ℕ) (last before now : List ℕ) where
  -- ---- withdrawals and what comes last

  pub none_withdrawn : PlacesMissing v Withdraw None old new before now →
      PlacesTail None old new v last before now
  none_withdrawn m d e d' e' h j =
      longer (parts_forms Withdraw v d d') last before now
      (parts_same v Withdraw None old new before now e e' d d' h j m)

  module _ (n : ℕ) (m : PlacesMissing v Withdraw (Some n) old new before now) (part : List ℕ)
    where
      pub last_placed : (k : ℕ) → Places (Some k) (last ++ []) (rest_of n now) part →
          PlacesTail (Some (n + k)) old new v last before (put_mid n (length now - n) now part)
      last_placed k placed d e d' e' h j =
          joined (parts_forms Withdraw v d d') last before now part n k
          (parts_same v Withdraw (Some n) old new before now e e' d d' h j m)
          (subst (λ l. PlacesFront (Some k) l (rest_of n now) part) (append-nil last) placed)

      pub no_last : Places None (last ++ []) (rest_of n now) part →
          PlacesTail None old new v last before (put_mid n (length now - n) now part)
      no_last (less, kept) d e d' e' h j =
          joined_none (parts_forms Withdraw v d d') last before now part n
          (parts_same v Withdraw (Some n) old new before now e e' d d' h j m)
          (subst (λ l. PlacesFront None l (rest_of n now) part) (append-nil last)
          (less, ([], last ++ [], refl, kept)))

  -- ---- all of it

  pub none_announced : PlacesMissing v Announce None new old before now →
      PlacesDelta None old new v last before now
  none_announced m d e d' e' h j =
      subst (λ l. PlacesFront None l before now) (sym (changes_parts v d d' last))
      (longer (parts_forms Announce v d' d) (parts_forms Withdraw v d d' ++ last) before now
      (parts_same v Announce None new old before now e' e d' d j h m))

  module _ (n : ℕ) (m : PlacesMissing v Announce (Some n) new old before now) (part : List ℕ)
    where
      pub all_placed : (k : ℕ) → PlacesTail (Some k) old new v last (rest_of n now) part →
          PlacesDelta (Some (n + k)) old new v last before (put_mid n (length now - n) now part)
      all_placed k tail d e d' e' h j =
          subst (λ l. PlacesFront (Some (n + k)) l before (put_mid n (length now - n) now part))
          (sym (changes_parts v d d' last))
          (joined (parts_forms Announce v d' d) (parts_forms Withdraw v d d' ++ last) before now
          part n k (parts_same v Announce (Some n) new old before now e' e d' d j h m)
          (tail d e d' e' h j))

      pub no_tail : PlacesTail None old new v last (rest_of n now) part →
          PlacesDelta None old new v last before (put_mid n (length now - n) now part)
      no_tail tail d e d' e' h j =
          subst (λ l. PlacesFront None l before (put_mid n (length now - n) now part))
          (sym (changes_parts v d d' last))
          (joined_none (parts_forms Announce v d' d) (parts_forms Withdraw v d d' ++ last) before
          now part n (parts_same v Announce (Some n) new old before now e' e d' d j h m)
          (tail d e d' e' h j))

-- the delta to data, where it ends with their end of data
pub delta_at : (n : Option ℕ) (old new before after : List ℕ) (d d' : List Payload)
    (e e' to : EndMeaning) (v : ℕ) (last : List ℕ) → v ≡ to.version → last ≡ end_list to →
    HoldsData old d e → HoldsData new d' e' → PlacesDelta n old new v last before after →
    PlacesFront n (delta_form d d' to) before after
delta_at n old new before after d d' e e' to v last is ends h j placed =
    subst (λ l. PlacesFront n l before after)
    (λ i. change_forms (is i) (changes d d') ++ ends i) (placed d e d' e' h j)

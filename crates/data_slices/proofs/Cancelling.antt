-- Changes of one payload that come to nothing.
use Rattle.std.proofs.Common.{◌≡◌, ℕ, true, false, not, ◌&&◌, cond, List, [], ◌∷◌, ◌++◌}
use Rattle.std.proofs.Common.{Option, Ok, Err, refl, sym, ap, subst, ◌∙◌}
use Rattle.std.specs.BTreeMap.{is_at}
use Rattle.std.specs.BTreeSet.{replace_key}
use Rattle.std.specs.Set.{remove_key}
use Rattle.std.specs.Cmp.{tied_itself}
use Rattle.std.specs.Ordering.{is_eq}
use Rattle.rtr_base.specs.declared.action.Action.{Action}
use Rattle.rtr_base.specs.declared.action.Action.TheVariants.{Announce, Withdraw}
use Rattle.rtr_units.specs.End.{EndMeaning, end_list}
use Rattle.rtr_payload.specs.Payloads.{Payload, aspa, key, origin}
use Rattle.data_memory.specs.declared.change_error.ChangeError.TheVariants.{Duplicate, Unknown}
use Rattle.data_memory.specs.Changes.{after_all}
use Rattle.data_memory.specs.Data.{Change, announcement, has_name, name_cmp, name_of, takes_place}
use Rattle.data_memory.specs.Data.{withdrawal}
use Rattle.data_memory.specs.Deltas.{change_forms}
use Rattle.data_memory.proofs.Names.{name_total}
use Rattle.data_slices.specs.Canonical.{PlacesFront}
use Rattle.data_slices.specs.Net.{net, of_name, settles}
use Rattle.data_slices.specs.Order.{Sends, WritesOrder}
use Rattle.data_slices.proofs.Making.{named_there}
use Rattle.data_slices.proofs.Ordering.{one_sequence}

-- what isn't an ASPA is its own name
named_itself : (p : Payload) → takes_place p ≡ false → name_of p ≡ p
unfolding takes_place
named_itself (origin o) h = refl
named_itself (key k) h = refl
named_itself (aspa a) h = absurd cc

abbrev by : Action → Payload → Change
by a p = record { action = a; payload = p }

net_none : (a b : Action) (p q : Payload) → settles a b p ≡ false →
    net (of_name q (by a p ∷ by b p ∷ [])) ≡ []
net_none a b p q h =
    elim (is_at (name_cmp q) p) as
    (λ t. net (cond t (by a p ∷ cond t (by b p ∷ []) []) (cond t (by b p ∷ []) [])) ≡ []) [
      | true ↦ ap (λ t. cond t (by b p ∷ []) []) h
      | false ↦ refl
    ]

-- there is no change where there is none of any name
no_change : (cs : List Change) → ((q : Payload) → of_name q cs ≡ []) → cs ≡ []
no_change [] h = refl
no_change (c ∷ cs) h =
    let own : is_eq (name_cmp c.payload c.payload) ≡ true =
    ap is_eq (tied_itself name_total c.payload) in
    let no : c ∷ of_name c.payload cs ≡ [] =
    sym (ap (λ t. cond t (c ∷ of_name c.payload cs) (of_name c.payload cs)) own) ∙ h c.payload in
    absurd cc

nothing : (n : Option ℕ) (input : List ℕ) (places : ℕ) (a b : Action) (p : Payload)
    (e : EndMeaning) (before after : List ℕ) → settles a b p ≡ false →
    WritesOrder n input places before after → Sends input (by a p ∷ by b p ∷ []) e →
    PlacesFront n (end_list e) before after
nothing n input places a b p e before after h w sends =
    let same = one_sequence input w.cs (by a p ∷ by b p ∷ []) w.e e w.sends sends in
    let none : w.ns ≡ [] =
    no_change w.ns (λ q. w.nets.of_each q ∙ ap (λ cs. net (of_name q cs)) same.0
    ∙ net_none a b p q h) in
    subst (λ form. PlacesFront n form before after)
    (λ i. change_forms (same.1 i).version (none i) ++ end_list (same.1 i)) w.written_form

pub withdrawn_first : (n : Option ℕ) (input : List ℕ) (places : ℕ) (p : Payload)
    (e : EndMeaning) (before after : List ℕ) → WritesOrder n input places before after →
    Sends input (withdrawal p ∷ announcement p ∷ []) e → takes_place p ≡ false →
    PlacesFront n (end_list e) before after
withdrawn_first n input places p e before after w sends plain =
    nothing n input places Withdraw Announce p e before after plain w
    (subst (λ x. Sends input (by Withdraw x ∷ by Announce p ∷ []) e) (named_itself p plain) sends)

pub announced_first : (n : Option ℕ) (input : List ℕ) (places : ℕ) (p : Payload)
    (e : EndMeaning) (before after : List ℕ) → WritesOrder n input places before after →
    Sends input (announcement p ∷ withdrawal p ∷ []) e → takes_place p ≡ false →
    PlacesFront n (end_list e) before after
announced_first n input places p e before after w sends plain =
    nothing n input places Announce Withdraw p e before after refl w
    (subst (λ x. Sends input (by Announce p ∷ by Withdraw x ∷ []) e) (named_itself p plain) sends)

-- ---- data that don't allow them

pub unknown_first : (p : Payload) (d : List Payload) → has_name d p ≡ false →
    after_all (withdrawal p ∷ announcement p ∷ []) (Ok d) ≡ Err Unknown
unknown_first p d h =
    ap (λ t. after_all (announcement p ∷ [])
    (cond t (Ok (remove_key (is_at (name_cmp (name_of p))) d)) (Err Unknown)))
    (named_there p d ∙ h)

pub duplicate_first : (p : Payload) (d : List Payload) → has_name d p ≡ true →
    takes_place p ≡ false →
    after_all (announcement p ∷ withdrawal p ∷ []) (Ok d) ≡ Err Duplicate
duplicate_first p d h plain = λ i. after_all (withdrawal p ∷ [])
    (cond (h i && not (plain i)) (Err Duplicate) (Ok (replace_key name_cmp d p)))

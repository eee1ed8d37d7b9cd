-- What follows for changes that are all allowed over some data.
use Rattle.std.proofs.Common.{◌≡◌, ℕ, cond, List, [], ◌∷◌, ◌++◌, map, Option, Ok}
use Rattle.std.proofs.Common.{sym, ap, subst, ◌∙◌}
use Rattle.std.proofs.lemmas.List.Elements.{filter-append}
use Rattle.std.specs.Ordering.{is_eq}
use Rattle.rtr_units.specs.End.{EndMeaning, end_list}
use Rattle.rtr_payload.specs.Payloads.{Payload}
use Rattle.rtr_wire.proofs.Runs.{accepted_same}
use Rattle.data_memory.specs.Changes.{after_all}
use Rattle.data_memory.specs.Data.{Change, IsData, name_cmp}
use Rattle.data_memory.specs.Deltas.{change_forms, unit_of}
use Rattle.data_memory.specs.Sequences.{change_of}
use Rattle.data_memory.proofs.Accepted.{again}
use Rattle.data_slices.specs.Canonical.{PlacesFront}
use Rattle.data_slices.specs.Net.{AreLinked, Follow, of_name}
use Rattle.data_slices.specs.Order.{IsAgain, LeadsAlike, RefusesAt, Sends, WritesOrder}
use Rattle.data_slices.proofs.Netting.{all_linked, nets_lead}
use Rattle.data_slices.proofs.Walking.{own_name}

-- an input begins with one sequence
pub one_sequence : (input : List ℕ) (cs ds : List Change) (e f : EndMeaning) → Sends input cs e →
    Sends input ds f → (cs ≡ ds) × (e ≡ f)
one_sequence input cs ds e f s t =
    let same = accepted_same input s.bytes t.bytes (map (unit_of e.version) cs)
    (map (unit_of f.version) ds) e f s.accepts t.accepts in (
      sym (again e.version cs) ∙ ap (map change_of) same.1 ∙ again f.version ds,
      same.2,
    )

follow_front : (h : Change) (gs : List Change) (c : Change) (l : List Change) →
    Follow h (gs ++ c ∷ l) → Follow h (gs ++ c ∷ [])
follow_front h [] c l (m, f) = (m, tt)
follow_front h (g ∷ gs) c l (m, f) = (m, follow_front g gs c l f)

linked_front : (gs : List Change) (c : Change) (l : List Change) → AreLinked (gs ++ c ∷ l) →
    AreLinked (gs ++ c ∷ [])
linked_front [] c l f = tt
linked_front (g ∷ gs) c l f = follow_front g gs c l f

module _ (cs : List Change) (d made : List Payload) (s : IsData d)
    (h : after_all cs (Ok d) ≡ Ok made) where
  -- no change may be refused that doesn't follow the one before it
  pub never_again : (before : List Change) (c : Change) (later : List Change) →
      cs ≡ before ++ c ∷ later → IsAgain before c → ⊥
  never_again before c later parts (linked, unlinked) =
      unlinked (linked_front (of_name c.payload before) c (of_name c.payload later)
      (subst AreLinked
      (ap (of_name c.payload) parts
      ∙ filter-append (λ (x : Change). is_eq (name_cmp c.payload x.payload)) before (c ∷ later)
      ∙ ap (λ b. of_name c.payload before
      ++ cond b (c ∷ of_name c.payload later) (of_name c.payload later)) (own_name c.payload))
      (all_linked cs d made s h c.payload)))

-- what was written leads where the changes of the input do
pub leads_alike : (n : Option ℕ) (input : List ℕ) (places : ℕ) (cs : List Change) (e : EndMeaning)
    (d made : List Payload) (before after : List ℕ) → WritesOrder n input places before after →
    Sends input cs e → IsData d → after_all cs (Ok d) ≡ Ok made →
    LeadsAlike n e d made before after
leads_alike n input places cs e d made before after w sends s h =
    let same = one_sequence input w.cs cs w.e e w.sends sends in
    record {
      ns = w.ns;
      in_order = w.nets.in_order;
      leads =
          nets_lead w.cs w.ns d made s
          (ap (λ l. after_all l (Ok d)) same.0 ∙ h) (λ p. (w.right p).1) w.nets;
      written_form =
          subst (λ (x : EndMeaning). PlacesFront n (change_forms x.version w.ns ++ end_list x)
          before after) same.1 w.written_form;
    }

pub never_refused : (input : List ℕ) (places o : ℕ) (cs : List Change) (e : EndMeaning)
    (d made : List Payload) (P : Change → Type 0) →
    RefusesAt input places o (λ before c later. P c × IsAgain before c) →
    Sends input cs e → IsData d → after_all cs (Ok d) ≡ Ok made → ⊥
never_refused input places o cs e d made P r sends s h =
    let same = one_sequence input cs (r.before ++ r.c ∷ r.later) e r.e sends r.sends in
    never_again cs d made s h r.before r.c r.later same.0 r.refused.1

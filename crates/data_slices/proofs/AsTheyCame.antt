-- What changes as they came are answered with, of one data and one sequence.
use Rattle.std.proofs.Common.{◌≡◌, ◌≤◌, ℕ, List, [], ◌∷◌, ◌++◌, Option, Some, None, Result, Ok, Err}
use Rattle.std.proofs.Common.{refl, sym, ap, subst, ◌∙◌, length, drop, arith, ◌<◌}
use Rattle.rtr_units.specs.End.{EndMeaning}
use Rattle.rtr_payload.specs.Payloads.{Payload}
use Rattle.data_memory.specs.Changes.{after_all}
use Rattle.data_memory.specs.Data.{Change, after}
use Rattle.data_memory.specs.declared.change_error.ChangeError.{ChangeError}
use Rattle.data_memory.proofs.Merge.{refused_all}
use Rattle.data_slices.specs.Apply.{RefusedAt, data_form}
use Rattle.data_slices.specs.Canonical.{HoldsData, PlacesFront}
use Rattle.data_memory.specs.declared.change_error.ChangeError.TheVariants as refusals
use Rattle.data_slices.specs.InOrder.{AppliesInOrder, InOneSession, IsMade, IsRefusedFor}
use Rattle.data_slices.specs.InOrder.{RefusesChange}
use Rattle.data_slices.specs.declared.in_order_fault.InOrderFault.{InOrderFault}
use Rattle.data_slices.specs.declared.in_order_fault.InOrderFault.TheVariants as faults
use Rattle.data_slices.proofs.NoStray.{no_stray}
use Rattle.data_slices.specs.Order.{Sends}
use Rattle.data_slices.specs.PrivateInOrder.{MadeOf}
use Rattle.data_slices.proofs.MadeData.{holds_made}
use Rattle.data_slices.proofs.OneData.{one_data}
use Rattle.data_slices.proofs.Ordering.{one_sequence}

-- of one data and one sequence
pub of_one : (old input : List ℕ) (d : List Payload) (cs : List Change) (end end' : EndMeaning) →
    HoldsData old d end → Sends input cs end' →
    (P : List Payload → List Change → EndMeaning → Type 0) → InOneSession old input P → P d cs end'
of_one old input d cs end end' h s P (d0, e0, cs0, e1, h0, s0, (v, t, p)) =
    let a = one_data old d0 d e0 end h0 h in
    let b = one_sequence input cs0 cs e1 end' s0 s in
    subst (λ x. x) (λ i. P (a.0 i) (b.0 i) (b.1 i)) p

after_refused : (before : List Change) (c : Change) (others : List Change) (d made : List Payload)
    (why : ChangeError) → after_all before (Ok d) ≡ Ok made → after c made ≡ Err why →
    after_all (before ++ c ∷ others) (Ok d) ≡ Err why
after_refused before c others d made why h w =
    in_turn before (Ok d) ∙ ap (after_all (c ∷ others)) h ∙ ap (after_all others) w
    ∙ refused_all others why
  where
    in_turn : (bs : List Change) (r : Result (List Payload) ChangeError) →
        after_all (bs ++ c ∷ others) r ≡ after_all (c ∷ others) (after_all bs r)
    in_turn [] r = refl
    in_turn (b ∷ bs) (Ok x) = in_turn bs (after b x)
    in_turn (b ∷ bs) (Err e) = refl

pub refused_whole : (o : ℕ) (why : ChangeError) (input : List ℕ) (d : List Payload)
    (cs : List Change) (v : ℕ) → RefusedAt o why input d cs v →
    RefusedAt o why input d cs v × (after_all cs (Ok d) ≡ Err why)
refused_whole o why input d cs v r = (
  r,
  ap (λ l. after_all l (Ok d)) r.all
      ∙ after_refused r.before r.refused r.others d r.made why r.allowed r.wrong,
)

-- the units and the end of data of what changes make, as they came
pub holds_sent : (base input rest : List ℕ) (d d' : List Payload) (cs : List Change)
    (e e' : EndMeaning) → HoldsData base d e → Sends input cs e' →
    e.version ≡ e'.version → after_all cs (Ok d) ≡ Ok d' →
    HoldsData (data_form d' e' ++ rest) d' e'
holds_sent base input rest d d' cs e e' h j =
    let q = j.accepts.sequence in
    holds_made base q.front rest d d' cs e e' h q.units q.end.fits

-- what is written is data
pub writes_data : (n : ℕ) (old input before after : List ℕ) (d d' : List Payload)
    (cs : List Change) (end end' : EndMeaning) → HoldsData old d end → Sends input cs end' →
    end.version ≡ end'.version → after_all cs (Ok d) ≡ Ok d' →
    MadeOf (Some n) d cs end' before after → HoldsData after d' end'
writes_data n old input before after d d' cs end end' h s version made (x, is, (size, fits, out)) =
    let same : x ≡ d' = ok_is x d' (sym is ∙ made) in
    subst (λ l. HoldsData l d' end')
    (sym (out ∙ ap (λ y. data_form y end' ++ drop n before) same))
    (holds_sent old input (drop n before) d d' cs end end' h s version made)
  where
    ok_is : (x y : List Payload) → ◌≡◌ {A = Result (List Payload) ChangeError} (Ok x) (Ok y) →
        x ≡ y
    ok_is x y e = cc

pub ok_same : (x y : List Payload) → ◌≡◌ {A = Result (List Payload) ChangeError} (Ok x) (Ok y) →
    x ≡ y
ok_same x y e = cc

not_both : (x : List Payload) (y : ChangeError) →
    ◌≡◌ {A = Result (List Payload) ChangeError} (Ok x) (Err y) → ⊥
not_both x y e = absurd cc

module _ (places : ℕ) (old input before after : List ℕ) (d d' : List Payload) (cs : List Change)
    (end end' : EndMeaning) (h : HoldsData old d end) (s : Sends input cs end')
    (version : end.version ≡ end'.version) (session : end.session ≡ end'.session)
    (enough : length cs ≤ places) (all : after_all cs (Ok d) ≡ Ok d') where
  is_made : (n : Option ℕ) → MadeOf n d cs end' before after →
      PlacesFront n (data_form d' end') before after
  is_made n (x, is, placed) =
      subst (λ l. PlacesFront n (data_form l end') before after)
      (ok_same x d' (sym is ∙ all)) placed

  not_refused : (o : ℕ) (why : ChangeError) →
      RefusesChange why o old input places → ⊥
  not_refused o why a =
      not_both d' why (sym all ∙ (refused_whole o why input d cs end'.version
      (of_one old input d cs end end' h s
      (λ d cs e. (length cs ≤ places) × RefusedAt o why input d cs e.version) a).1).1)

  pub refuses_none : (r : Result ℕ InOrderFault) → AppliesInOrder r old input places before after →
      IsMade r (data_form d' end') before after
  refuses_none (Ok n) a =
      is_made (Some n) (of_one old input d cs end end' h s
      (λ d cs e. (length cs ≤ places) × MadeOf (Some n) d cs e before after) a).1
  refuses_none (Err faults.NoRoom) a =
      is_made None (of_one old input d cs end end' h s
      (λ d cs e. (length cs ≤ places) × MadeOf None d cs e before after) a).1
  refuses_none (Err (faults.Data f)) (a, same) = a.none (d, end, h)
  refuses_none (Err (faults.Changes f)) ((x, a), same) = no_stray input f cs end' s a
  refuses_none (Err (faults.UnitVersion v)) ((d0, e0, cs0, e1, h0, s0, (not, is)), same) =
      not (ap (λ (m : EndMeaning). m.version) (one_data old d0 d e0 end h0 h).1 ∙ version
      ∙ sym (ap (λ (m : EndMeaning). m.version) (one_sequence input cs0 cs e1 end' s0 s).1))
  refuses_none (Err (faults.Session v)) ((d0, e0, cs0, e1, h0, s0, (w, not, is)), same) =
      not (ap (λ (m : EndMeaning). m.session) (one_data old d0 d e0 end h0 h).1 ∙ session
      ∙ sym (ap (λ (m : EndMeaning). m.session) (one_sequence input cs0 cs e1 end' s0 s).1))
  refuses_none (Err faults.NoIndex) (a, same) =
      let less = of_one old input d cs end end' h s (λ d cs e. places < length cs) a in
      omega (arith, less, enough)
  refuses_none (Err (faults.Duplicate o)) (a, same) = not_refused o refusals.Duplicate a
  refuses_none (Err (faults.Unknown o)) (a, same) = not_refused o refusals.Unknown a

why_same : (x y : ChangeError) → ◌≡◌ {A = Result (List Payload) ChangeError} (Err x) (Err y) → x ≡ y
why_same x y e = cc

module _ (places : ℕ) (old input before after : List ℕ) (d : List Payload) (cs : List Change)
    (end end' : EndMeaning) (why : ChangeError) (h : HoldsData old d end) (s : Sends input cs end')
    (version : end.version ≡ end'.version) (session : end.session ≡ end'.session)
    (enough : length cs ≤ places) (wrong : after_all cs (Ok d) ≡ Err why) where
  not_made : (n : Option ℕ) →
      InOneSession old input (λ d cs e. (length cs ≤ places) × MadeOf n d cs e before after) → ⊥
  not_made n a =
      let (few, (x, is, placed)) = of_one old input d cs end end' h s
      (λ d cs e. (length cs ≤ places) × MadeOf n d cs e before after) a in
      not_both x why (sym is ∙ wrong)

  is_why : (o : ℕ) (y : ChangeError) →
      InOneSession old input (λ d cs e. (length cs ≤ places) × RefusedAt o y input d cs e.version) →
      why ≡ y
  is_why o y a =
      why_same why y (sym wrong ∙ (refused_whole o y input d cs end'.version
      (of_one old input d cs end end' h s
      (λ d cs e. (length cs ≤ places) × RefusedAt o y input d cs e.version) a).1).1)

  pub refuses_it : (r : Result ℕ InOrderFault) → AppliesInOrder r old input places before after →
      IsRefusedFor r why × (after ≡ before)
  refuses_it (Ok n) a = absurd (not_made (Some n) a)
  refuses_it (Err faults.NoRoom) a = absurd (not_made None a)
  refuses_it (Err (faults.Data f)) (a, same) = absurd (a.none (d, end, h))
  refuses_it (Err (faults.Changes f)) ((x, a), same) = absurd (no_stray input f cs end' s a)
  refuses_it (Err (faults.UnitVersion v)) ((d0, e0, cs0, e1, h0, s0, (not, is)), same) =
      absurd (not (ap (λ (m : EndMeaning). m.version) (one_data old d0 d e0 end h0 h).1 ∙ version
      ∙ sym (ap (λ (m : EndMeaning). m.version) (one_sequence input cs0 cs e1 end' s0 s).1)))
  refuses_it (Err (faults.Session v)) ((d0, e0, cs0, e1, h0, s0, (w, not, is)), same) =
      absurd (not (ap (λ (m : EndMeaning). m.session) (one_data old d0 d e0 end h0 h).1 ∙ session
      ∙ sym (ap (λ (m : EndMeaning). m.session) (one_sequence input cs0 cs e1 end' s0 s).1)))
  refuses_it (Err faults.NoIndex) (a, same) =
      absurd (let less = of_one old input d cs end end' h s (λ d cs e. places < length cs) a in
      omega (arith, less, enough))
  refuses_it (Err (faults.Duplicate o)) (a, same) = (is_why o refusals.Duplicate a, same)
  refuses_it (Err (faults.Unknown o)) (a, same) = (is_why o refusals.Unknown a, same)

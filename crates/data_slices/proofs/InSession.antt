-- What data and changes of one session are answered with, as they came.
use Rattle.std.proofs.Common.{◌≡◌, ◌≤◌, ◌<◌, ℕ, List, length, take, Option, Some, None, Ok, Err}
use Rattle.std.proofs.Common.{refl, Result, sym, subst, ◌∙◌, arith}
use Rattle.rtr_base.specs.declared.action.Action.{Action}
use Rattle.rtr_base.specs.declared.action.Action.TheVariants.{Announce, Withdraw}
use Rattle.rtr_units.specs.AnyEnd.{end_meaning}
use Rattle.rtr_units.specs.End.{EndMeaning}
use Rattle.rtr_units.specs.declared.end.EndOfData.{EndOfData}
use Rattle.rtr_payload.specs.Payloads.{Payload}
use Rattle.data_memory.specs.Data.{Change}
use Rattle.data_slices.specs.Canonical.{HoldsData}
use Rattle.data_slices.specs.InOrder.{AppliesInOrder, AreAllowed, ChecksInOrder}
use Rattle.data_slices.specs.InOrder.{DataAndSequence, InOneSession, RefusesInOrder}
use Rattle.data_slices.specs.PrivateChanges.{HoldsUnits}
use Rattle.data_slices.specs.PrivateInOrder.{FindsRefusal, MadeOf, MakesInOrder, Outcome}
use Rattle.data_slices.specs.PrivateInOrder.{ReadsBoth, FirstRefused, refused_with}
use Rattle.data_slices.specs.PrivateOffsets.{OffsetsRead, SendsAt}
use Rattle.data_slices.specs.declared.in_order_fault.InOrderFault.{InOrderFault}
use Rattle.data_slices.specs.declared.in_order_fault.InOrderFault.TheVariants as faults
use Rattle.data_slices.proofs.Refusals.{as_many, as_sends, have_units}
use Rattle.data_slices.proofs.Units.{of_data}

module _ (base changes index : List ℕ) (d : List Payload) (end : EndMeaning)
    (h : HoldsData base d end) (x : EndOfData) (count : ℕ)
    (r : OffsetsRead x count changes index) where
  abbrev e : EndMeaning
  e = end_meaning x

  many : count ≡ length r.cs
  many = r.counts ∙ as_many changes e.version r.os r.cs (have_units changes r.os r.cs e r.sends)

  pub both : (P : List Payload → EndMeaning → List Change → EndMeaning → Type 0) →
      P d end r.cs e → DataAndSequence base changes P
  both P p = (d, end, r.cs, e, h, as_sends changes r.os r.cs e r.sends, p)

  pub too_many : (n : ℕ) → n ≡ length index → n < count → n < length r.cs
  too_many n is less = omega (arith, many, less)

  pub few : (n : ℕ) → n ≡ length index → count ≤ length index → length r.cs ≤ n
  few n is le = omega (arith, many, le, is)

module _ (base changes index : List ℕ) (n : ℕ) (x : EndOfData) (count : ℕ)
    (k : ReadsBoth (Ok (x, count)) base changes n index) (long : length index ≡ n) where
  abbrev end : EndMeaning
  end = end_meaning x

  enough : length k.3.cs ≤ n
  enough = few base changes index k.0 k.1 k.2 x count k.3 n (sym long) k.6

  in_session : (P : List Payload → List Change → EndMeaning → Type 0) → P k.0 k.3.cs end →
      InOneSession base changes P
  in_session P p =
      both base changes index k.0 k.1 k.2 x count k.3
      (λ d e cs e'. (e.version ≡ e'.version) × (e.session ≡ e'.session) × P d cs e')
      (k.4, k.5, p)

  held : HoldsUnits Announce end.version base k.0
  held = subst (λ v. HoldsUnits Announce v base k.0) k.4 (of_data base k.0 k.1 k.2)

  pub sends : SendsAt changes (take count index) k.3.cs end
  sends = subst (λ l. SendsAt changes l k.3.cs end) (sym (k.3.held k.6)) k.3.sends

  refusal : (y : Option (ℕ × Action)) → FindsRefusal y base changes (take count index) →
      FirstRefused y changes k.0 k.3.cs end.version
  refusal y f = f end.version k.0 k.3.cs end held sends k.2.in_order

  pub checked : FindsRefusal None base changes (take count index) →
      ChecksInOrder (Ok x) base changes n
  checked f =
      in_session
      (λ d cs e. (end_meaning x ≡ e) × (length cs ≤ n)
      × AreAllowed cs d)
      (refl, enough, refusal None f)

  pub refuses : (o : ℕ) (a : Action) →
      FindsRefusal (Some (o, a)) base changes (take count index) →
      RefusesInOrder (refused_with o a) base changes n
  refuses o Announce f =
      in_session
      (λ d cs e. (length cs ≤ n) × FirstRefused (Some (o, Announce)) changes d cs e.version)
      (enough, refusal (Some (o, Announce)) f)
  refuses o Withdraw f =
      in_session
      (λ d cs e. (length cs ≤ n) × FirstRefused (Some (o, Withdraw)) changes d cs e.version)
      (enough, refusal (Some (o, Withdraw)) f)

  module _ (before after : List ℕ) where
    by_outcome : (y : Result ℕ InOrderFault) →
        Outcome y changes k.0 k.3.cs end before after →
        AppliesInOrder y base changes n before after
    by_outcome (Ok m) o =
        in_session
        (λ d cs e. (length cs ≤ n)
        × MadeOf (Some m) d cs e before after)
        (enough, o)
    by_outcome (Err faults.NoRoom) o =
        in_session
        (λ d cs e. (length cs ≤ n)
        × MadeOf None d cs e before after)
        (enough, o)
    by_outcome (Err (faults.Duplicate at)) (o, same) = (
      in_session
          (λ d cs e. (length cs ≤ n) × FirstRefused (Some (at, Announce)) changes d cs e.version)
          (enough, o),
      same,
    )
    by_outcome (Err (faults.Unknown at)) (o, same) = (
      in_session
          (λ d cs e. (length cs ≤ n) × FirstRefused (Some (at, Withdraw)) changes d cs e.version)
          (enough, o),
      same,
    )
    by_outcome (Err (faults.Data f)) o = absurd o
    by_outcome (Err (faults.Changes f)) o = absurd o
    by_outcome (Err (faults.UnitVersion v)) o = absurd o
    by_outcome (Err (faults.Session s)) o = absurd o
    by_outcome (Err faults.NoIndex) o = absurd o

    pub applied : (y : Result ℕ InOrderFault) →
        MakesInOrder y base changes (take count index) end before after →
        AppliesInOrder y base changes n before after
    applied y m = by_outcome y (m k.0 k.3.cs held sends k.2.in_order)

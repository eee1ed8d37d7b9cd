-- What a cache sends of its editions leads there, and is of payloads that the version has.
use Rattle.std.proofs.Common.{◌≡◌, ℕ, Bool, true, false, if◌then◌else◌, refl, ap}
use Rattle.std.proofs.Common.{List, [], ◌∷◌, map, arith, Some, None, subst, sym, ◌∙◌, inl, inr}
use Rattle.std.proofs.lemmas.Bool.Decides.{nat_tests}
use Rattle.std.specs.List.{AllByRecursion, filter}
use Rattle.std.specs.Prelude.{nat_le, not}
use Rattle.rtr_payload.specs.Payloads.{Payload, smallest_version}
use Rattle.rtr_payload.specs.Payloads.Payload.{origin, key, aspa}
use Rattle.data_memory.specs.Data.{Change, announcement, has, has_name, name_of, withdrawal}
use Rattle.data_memory.specs.Changes.{changes}
use Rattle.data_memory.specs.Deltas.{data_for}
use Rattle.data_memory.proofs.Delta.{no_changes}
use Rattle.data_memory.proofs.Once.{all_changes}
use Rattle.data_memory.proofs.Versions.{all_lead, delta_leads}
use Rattle.session_router.specs.Rules.{IsPayloadOf}
use Rattle.session_cache.specs.Worlds.{Agrees, AreChangesOf, Edition, IsIn, IsOneDataPerName}
use Rattle.session_cache.specs.Worlds.{IsReached, IsSource, WasHad, World}
use Rattle.session_cache.proofs.Agreement.{agreement}
use Rattle.session_laws.specs.Editions.{PayloadEdition, ShowsEdition, answered_with, edition_of}
use Rattle.session_laws.specs.Editions.{editions_of}
use Rattle.session_laws.specs.Editions.{if_made, made_from, payload_source, unit_kind}

-- the version has the payload
abbrev IsOf : ℕ → Payload → Type 0
IsOf v p = IsPayloadOf v (unit_kind p)

of_version : (v : ℕ) (p : Payload) → nat_le (smallest_version p) v ≡ true → IsOf v p
of_version v (origin o) e = tt
of_version v (key k) e = grind (arith, nat_tests)
of_version v (aspa a) e = grind (arith, nat_tests)

of_highest : (p : Payload) → IsOf 2 p
of_highest (origin o) = tt
of_highest (key k) = omega arith
of_highest (aspa a) = omega arith

kept_if : (P : Payload → Type 0) (x : Payload) (xs : List Payload) (b : Bool)
    → (b ≡ true → P x) → AllByRecursion P xs → AllByRecursion P (if b then x ∷ xs else xs)
kept_if P x xs true h a = (h refl, a)
kept_if P x xs false h a = a

passes : (P : Payload → Type 0) (f : Payload → Bool) (h : (p : Payload) → f p ≡ true → P p)
    (d : List Payload) → AllByRecursion P (filter f d)
passes P f h [] = tt
passes P f h (x ∷ xs) = kept_if P x (filter f xs) (f x) (h x) (passes P f h xs)

of_data : (v : ℕ) (d : List Payload) → AllByRecursion (λ p. IsOf v p) (data_for v d)
of_data v d = passes (λ p. IsOf v p) (λ p. nat_le (smallest_version p) v) (of_version v) d

still : (P : Payload → Type 0) (f : Payload → Bool) (d : List Payload) → AllByRecursion P d
    → AllByRecursion P (filter f d)
still P f [] a = tt
still P f (x ∷ xs) a = kept_if P x (filter f xs) (f x) (λ e. a.0) (still P f xs a.1)

announced : (v : ℕ) (d : List Payload) → AllByRecursion (λ p. IsOf v p) d
    → AreChangesOf Change (λ c. unit_kind c.payload) v (map announcement d)
announced v [] a = tt
announced v (x ∷ xs) a = (a.0, announced v xs a.1)

of_name : (v : ℕ) (p : Payload) → IsOf v p → IsOf v (name_of p)
of_name v (origin o) h = h
of_name v (key k) h = h
of_name v (aspa a) h = h

withdrawn : (v : ℕ) (d : List Payload) → AllByRecursion (λ p. IsOf v p) d
    → AreChangesOf Change (λ c. unit_kind c.payload) v (map withdrawal d)
withdrawn v [] a = tt
withdrawn v (x ∷ xs) a = (of_name v x a.0, withdrawn v xs a.1)

changed_of : (v : ℕ) (old new : List Payload) → AllByRecursion (λ p. IsOf v p) old
    → AllByRecursion (λ p. IsOf v p) new
    → AreChangesOf Change (λ c. unit_kind c.payload) v (changes old new)
changed_of v old new a b =
    all_changes (λ c. IsPayloadOf v (unit_kind c.payload))
    (map announcement (filter (λ p. not (has old p)) new))
    (map withdrawal (filter (λ p. not (has_name new p)) old))
    (announced v (filter (λ p. not (has old p)) new)
    (still (λ p. IsOf v p) (λ p. not (has old p)) new b))
    (withdrawn v (filter (λ p. not (has_name new p)) old)
    (still (λ p. IsOf v p) (λ p. not (has_name new p)) old a))

-- ---- editions

pub edition_in : (es : List PayloadEdition) (x : Edition (List Payload)) → IsIn (editions_of es) x
    → (e : PayloadEdition) × IsIn es e × (edition_of e ≡ x)
edition_in [] x i = absurd i
edition_in (e ∷ es) x (inl is) = (e, inl refl, is)
edition_in (e ∷ es) x (inr i) =
    let y : (e : PayloadEdition) × IsIn es e × (edition_of e ≡ x) = edition_in es x i in
    (y.0, inr y.1, y.2)

pub in_editions : (es : List PayloadEdition) (e : PayloadEdition) → IsIn es e
    → IsIn (editions_of es) (edition_of e)
in_editions [] e i = absurd i
in_editions (y ∷ es) e (inl is) = inl (ap edition_of is)
in_editions (y ∷ es) e (inr i) = inr (in_editions es e i)

-- what holds of each edition holds of what the cache had
of_each : (P : Edition (List Payload) → Type 0) (es : List PayloadEdition)
    → ((e : PayloadEdition) → P (edition_of e)) → (x : Edition (List Payload))
    → WasHad (editions_of es) x → P x
of_each P es each x was =
    let y : (e : PayloadEdition) × IsIn es e × (edition_of e ≡ x) = edition_in es x was.1 in
    subst P y.2 (each y.0)

pub is_source : (es : List PayloadEdition)
    → IsSource (List Payload) Change payload_source (editions_of es)
is_source es = record {
  all_lead = λ v. of_each
      (λ x. made_from None (answered_with None (x.for_version v)) ≡ Some (x.for_version v)) es
      (λ e. ap if_made (all_lead v e.payloads e.are_data));
  changes_lead = λ v x y wx wy s. of_each
      (λ x. made_from (Some (x.for_version v))
      (answered_with (Some (x.for_version v)) (y.for_version v)) ≡ Some (y.for_version v)) es
      (λ e. of_each
      (λ y. made_from (Some (data_for v e.payloads))
      (answered_with (Some (data_for v e.payloads)) (y.for_version v)) ≡ Some (y.for_version v)) es
      (λ f. ap if_made (delta_leads v e.payloads f.payloads e.are_data f.are_data)) y wy) x wx;
  none_at_once = λ v x was. no_changes (x.for_version v);
  is_payload = λ c. of_highest c.payload;
  all_are = λ v. of_each
      (λ x. AreChangesOf Change (λ c. unit_kind c.payload) v (answered_with None (x.for_version v)))
      es (λ e. announced v (data_for v e.payloads) (of_data v e.payloads));
  changes_are = λ v x y wx wy s. of_each
      (λ x. AreChangesOf Change (λ c. unit_kind c.payload) v
      (answered_with (Some (x.for_version v)) (y.for_version v))) es
      (λ e. of_each
      (λ y. AreChangesOf Change (λ c. unit_kind c.payload) v
      (answered_with (Some (data_for v e.payloads)) (y.for_version v))) es
      (λ f. changed_of v (data_for v e.payloads) (data_for v f.payloads) (of_data v e.payloads)
      (of_data v f.payloads)) y wy) x wx;
}

pub payloads_agree : (es : List PayloadEdition) (w : World (List Payload) Change)
    → w.had ≡ editions_of es → IsOneDataPerName w.had
    → IsReached (List Payload) Change payload_source w → w.router.has_data ≡ true → ShowsEdition w
payloads_agree es w are one run has =
    let x : Agrees (List Payload) Change w =
    agreement (List Payload) Change payload_source w
    (subst (λ had. IsSource (List Payload) Change payload_source had) (sym are) (is_source es))
    one run has in
    let y : (e : PayloadEdition) × IsIn es e × (edition_of e ≡ x.edition) =
    edition_in es x.edition
    (subst (λ (had : List (Edition (List Payload))). IsIn had x.edition) are x.was.1) in
    record {
      edition = y.0;
      was = subst (λ (e : Edition (List Payload)). WasHad w.had e) (sym y.2) x.was;
      session = ap (λ (e : Edition (List Payload)). e.name.session) y.2 ∙ x.session;
      serial = ap (λ (e : Edition (List Payload)). e.name.serial) y.2 ∙ x.serial;
      shown = x.same
          ∙ ap (λ (e : Edition (List Payload)). Some (e.for_version w.router.known.version))
          (sym y.2);
    }

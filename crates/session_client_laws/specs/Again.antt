-- A client that lost its connection, and a cache of ours that serves it again: their bytes, and
-- when they come (RFC 8210 sections 6 and 8).
use Rattle.std.specs.Prelude.{◌≡◌, ℕ, ◌≤◌, ◌++◌, false, max, take, List, [], ◌∷◌, Option, Some}
use Rattle.rtr_units.specs.End.{EndMeaning}
use Rattle.data_memory.specs.Deltas.{data_for}
use Rattle.data_slices.specs.Canonical.{HoldsData}
use Rattle.session_router.specs.Exchange.{Exchange}
use Rattle.session_router.specs.Histories.{Moment}
use Rattle.session_router.specs.Pace.{wakes_at}
use Rattle.session_router.specs.Rules.{known_of}
use Rattle.session_router.specs.declared.event.Action.{Action}
use Rattle.session_cache.specs.declared.cache.Cache.{Cache}
use Rattle.session_bytes.specs.Heads.{end_head}
use Rattle.session_client.specs.Holding.{untold}
use Rattle.session_client.specs.Makings.{Octets}
use Rattle.session_client.specs.declared.client.Client.{Client}
use Rattle.session_laws.specs.Editions.{PayloadEdition}
use Rattle.session_client_laws.specs.Runs.{Calls, Goes, IsOpening, Pair, sent_by}
use Rattle.session_client_laws.specs.Served.{AreOfWord, WellServed}

-- ---- while the cache has no new data

-- Where the two are after any steps from `before` on, with connections cut and made, but with no
-- new data at the cache.
pub data IsSettled (before : Pair) : Pair → Type 0 where
  settled_from : IsSettled before before
  settled_on :
      (p p' : Pair) → IsSettled before p → Goes p p' → p'.had ≡ p.had → IsSettled before p'

-- ---- and keeps the rules, in time

-- A call that comes when the client wakes, at the latest. What its machine is told then is what a
-- cache that has data and keeps the rules may do; it comes in time, and no data are shown.
pub record IsServedCall (most : ℕ) (p : Pair) (x : Exchange) (n : ℕ) (k : Client)
    (input held : Octets) (a : Option Action) (c : Calls p k input held a) (x' : Exchange) :
    Type 0 where
  pub later : n ≤ c.now
  pub awake : c.now ≤ max n (wakes_at p.client.router)
  pub first : Moment Octets
  pub others : List (Moment Octets)
  pub of_word : AreOfWord c.takes.word (untold p.client p.input) (first ∷ others)
  pub well : WellServed most c.now p.client.router x (first ∷ others) k.router x'

-- the two after a call
abbrev pub pair_after : Pair → Client → (input held : Octets) → Option Action → Pair
pair_after p k input held a = record p {
  client = k;
  input = input;
  held = held;
  to_cache = p.to_cache ++ sent_by a;
}

-- The two at a time of the client, and what was exchanged by then, while the cache serves it from
-- `start`, `before` and `x₀` on, has no new data, and none are shown. Between these calls they do
-- what they may, but for what the machine is told.
pub data IsServedAgain (most : ℕ) (before : Pair) (x₀ : Exchange) (start : ℕ) :
    Pair → Exchange → (now : ℕ) → Type 0 where
  again_from : IsServedAgain most before x₀ start before x₀ start
  again_calls :
      (p : Pair) (x : Exchange) (n : ℕ) (k : Client) (input held : Octets) (a : Option Action)
      (c : Calls p k input held a) (x' : Exchange)
      → IsServedAgain most before x₀ start p x n
      → IsServedCall most p x n k input held a c x'
      → (IsOpening c.takes.word → ⊥)
      → IsServedAgain most before x₀ start (pair_after p k input held a) x' c.now
  -- a connection is there; the cache's end of it is new
  again_opens :
      (p : Pair) (x : Exchange) (n : ℕ) (k : Client) (input held : Octets) (a : Option Action)
      (new : Cache) (c : Calls p k input held a) (x' : Exchange)
      → IsServedAgain most before x₀ start p x n
      → IsServedCall most p x n k input held a c x'
      → IsOpening c.takes.word → new.asked ≡ false
      → IsServedAgain most before x₀ start (record p {
        client = k;
        input = input;
        held = held;
        cache = new;
        to_cache = sent_by a;
        to_router = [];
      }) x' c.now
  again_meanwhile :
      (p p' : Pair) (x : Exchange) (n : ℕ)
      → IsServedAgain most before x₀ start p x n → Goes p p'
      → p'.client.router ≡ p.client.router → p'.had ≡ p.had
      → IsServedAgain most before x₀ start p' x n

-- ---- what is shown

-- The data buffer begins with data in canonical form: these payloads, as the client's version has
-- them, and an end of data that names them.
pub record ShowsThese (e : PayloadEdition) (p : Pair) : Type 0 where
  pub session : p.client.router.known.session ≡ e.name.session
  pub serial : p.client.router.known.serial ≡ e.name.serial
  pub size : ℕ
  pub shown : p.client.shown ≡ Some size
  pub end : EndMeaning
  pub holds :
      HoldsData (take size p.held) (data_for p.client.router.known.version e.payloads) end
  pub named : known_of (end_head end 0) ≡ p.client.router.known

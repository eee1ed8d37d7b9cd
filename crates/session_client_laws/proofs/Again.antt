-- A client that a cache serves again: what it shows then are the present data, within its limits.
use Rattle.std.proofs.Common.{◌≡◌, ℕ, true, List, take, refl, sym, ap, ◌∙◌, subst}
use Rattle.std.proofs.Common.{Some}
use Rattle.rtr_payload.specs.Payloads.{Payload}
use Rattle.data_memory.specs.Deltas.{data_for}
use Rattle.data_slices.specs.Canonical.{HoldsData}
use Rattle.session_router.specs.declared.event.Action.{Action}
use Rattle.session_router.specs.declared.event.Action.TheVariants as actions
use Rattle.session_router.specs.declared.event.Event.{Event}
use Rattle.session_router.specs.declared.event.Event.TheVariants as events
use Rattle.session_router.specs.declared.head.Known.{Known}
use Rattle.session_router.specs.declared.router.Router.{Router}
use Rattle.session_router.specs.Exchange.{Exchange}
use Rattle.session_router.specs.Heeding.{IsTalking}
use Rattle.session_router.specs.Rules.{Adopts, Rule}
use Rattle.session_cache.specs.Worlds.{IsIn, IsOneDataPerName, WasHad}
use Rattle.session_bytes.specs.declared.telling.Told.TheVariants as told
use Rattle.session_client.specs.Makings.{Octets}
use Rattle.session_client.specs.Tells.{IsTold, Word, of_bytes, of_itself, of_nothing}
use Rattle.session_client.specs.declared.client.Client.{Client}
use Rattle.session_client.proofs.Runs.{no_show}
use Rattle.session_laws.specs.Editions.{edition_of, editions_of}
use Rattle.session_laws.proofs.Payloads.{in_editions}
use Rattle.session_client_laws.specs.Again.{IsServedAgain, IsSettled, ShowsThese, pair_after}
use Rattle.session_client_laws.specs.Again.IsServedAgain.{again_calls, again_from}
use Rattle.session_client_laws.specs.Again.IsServedAgain.{again_meanwhile, again_opens}
use Rattle.session_client_laws.specs.Again.IsSettled.{settled_from, settled_on}
use Rattle.session_client_laws.specs.Runs.{Calls, IsOpening, IsRunOfClient, Pair, ShowsHad}
use Rattle.session_client_laws.specs.Runs.Goes.{calls, opens}
use Rattle.session_client_laws.specs.Runs.IsRunOfClient.{pair_goes_on}
use Rattle.session_client_laws.specs.Served.{IsServedFrom}
use Rattle.session_client_laws.specs.Served.IsServedFrom.{says_between, serves_from, serves_on}
use Rattle.session_client_laws.proofs.Along.{BytesAgree, shows_had}
use Rattle.session_client_laws.proofs.Current.{Current, adopts_then, first_current, had_present}
use Rattle.session_client_laws.proofs.Current.{next_current}

-- ---- in time

pub served_again : (most : ℕ) (before : Pair) (x₀ : Exchange) (start : ℕ) (p : Pair)
    (x : Exchange) (n : ℕ) → IsServedAgain most before x₀ start p x n →
    IsServedFrom most before.client x₀ start p.client x n
served_again most before x₀ start p x n again_from = serves_from
served_again most before x₀ start p x n (again_calls q y m k input held a c x' so served shut) =
    serves_on q.client y m c.now a q.input q.held k input held served.first served.others x'
    (served_again most before x₀ start q y m so) served.later served.awake c.takes served.of_word
    served.well
served_again most before x₀ start p x n
    (again_opens q y m k input held a new c x' so served opening asked) =
    serves_on q.client y m c.now a q.input q.held k input held served.first served.others x'
    (served_again most before x₀ start q y m so) served.later served.awake c.takes served.of_word
    served.well
served_again most before x₀ start p x n (again_meanwhile q q' y m so goes same had) =
    says_between q.client y m q'.client (served_again most before x₀ start q y m so) same

-- ---- where it is while the cache has no new data

current : (before : Pair) → IsRunOfClient before → (IsTalking before.client.router → ⊥) →
    (p : Pair) → IsSettled before p → Current before p
current before was silent p settled_from = first_current before was silent
current before was silent p (settled_on q q' so goes had) =
    next_current before q q' goes had (current before was silent q so)

pub settled : (most : ℕ) (before : Pair) (x₀ : Exchange) (start : ℕ) (p : Pair) (x : Exchange)
    (n : ℕ) → IsServedAgain most before x₀ start p x n → IsSettled before p
settled most before x₀ start p x n again_from = settled_from
settled most before x₀ start p x n (again_calls q y m k input held a c x' so served shut) =
    settled_on q (pair_after q k input held a) (settled most before x₀ start q y m so)
    (calls q k input held a c shut) refl
settled most before x₀ start p x n
    (again_opens q y m k input held a new c x' so served opening asked) =
    settled_on q _ (settled most before x₀ start q y m so)
    (opens q k input held a new c opening asked) refl
settled most before x₀ start p x n (again_meanwhile q q' y m so goes same had) =
    settled_on q q' (settled most before x₀ start q y m so) goes had

-- ---- data are shown

record Shows (r r' : Router) (n : ℕ) (w : Word) : Type 0 where
  pub adopts : Adopts r n r'
  pub shut : IsOpening w → ⊥

-- an event that is a unit shows nothing
never : (r r' : Router) (n : ℕ) (e : Event) (a : Action) → (e ≡ events.Applied → ⊥) →
    Rule r n e a r' → Some actions.Show ≡ Some a → ⊥
never r r' n e a other rule is = no_show r n e a r' other rule (let z = is in cc)

shows : (r r' : Router) (n : ℕ) (before after : Octets) (w : Word) →
    IsTold w n r before after (Some actions.Show) r' → Shows r r' n w
shows r r' n before after of_nothing is_told = absurd (let z = is_told.0 in cc)
shows r r' n before after (of_itself e a) is_told =
    let is : a ≡ actions.Show = let z = is_told.0 in cc in
    let adopted = adopts_then r r' n e (subst (λ a. Rule r n e a r') is is_told.2.rule) in
    record {
      adopts = adopted.0;
      shut = λ o. subst (λ e. IsOpening (of_itself e a)) adopted.1 o;
    }
shows r r' n before after (of_bytes ended told.Awaits) is_told =
    absurd (let z = is_told.0 in cc)
shows r r' n before after (of_bytes ended (told.Kept k)) is_told =
    absurd (let z = is_told.0 in cc)
shows r r' n before after (of_bytes ended (told.Acted start end a)) is_told =
    absurd (never is_told.1.before r' n _ a (λ is. cc) is_told.1.step.rule is_told.0)
shows r r' n before after (of_bytes ended (told.Refused e a)) is_told =
    absurd (never r r' n _ a (λ is. cc) is_told.1.step.rule is_told.0)

pub shows_these : BytesAgree → (before p : Pair) (k : Client) (input held : Octets)
    (c : Calls p k input held (Some actions.Show)) →
    IsOneDataPerName (editions_of before.had) → before.present.name.has ≡ true →
    IsRunOfClient before → (IsTalking before.client.router → ⊥) → IsSettled before p →
    ShowsThese before.present (pair_after p k input held (Some actions.Show))
shows_these agree before p k input held c one has was silent so =
    let s = current before was silent p so in
    let shown = shows p.client.router k.router c.now _ _ c.takes.word c.takes.is_told in
    let q : Pair = pair_after p k input held (Some actions.Show) in
    let run : IsRunOfClient q =
    pair_goes_on p q s.run (calls p k input held (Some actions.Show) c shown.shut) in
    let one_then : IsOneDataPerName (editions_of q.had) =
    subst (λ h. IsOneDataPerName (editions_of h)) (sym s.had) one in
    let y : ShowsHad q = shows_had agree q one_then run shown.adopts.has_data in
    let named = s.makes shown.adopts.from in
    let session : k.router.known.session ≡ before.present.name.session =
    ap (λ (k : Known). k.session) shown.adopts.known ∙ named.0 in
    let serial : k.router.known.serial ≡ before.present.name.serial =
    ap (λ (k : Known). k.serial) shown.adopts.known ∙ named.1 in
    let was_in : IsIn q.had before.present =
    subst (λ h. IsIn h before.present) (sym s.had) (had_present before was) in
    let here : WasHad (editions_of q.had) (edition_of before.present) =
    (has, in_editions q.had before.present was_in) in
    let there : WasHad (editions_of q.had) (edition_of y.edition) =
    (y.has, in_editions q.had y.edition y.was) in
    let same : data_for k.router.known.version y.edition.payloads
    ≡ data_for k.router.known.version before.present.payloads =
    one_then (edition_of y.edition) (edition_of before.present) there here (y.session ∙ session)
    (y.serial ∙ serial) k.router.known.version in
    record {
      session = session;
      serial = serial;
      size = y.size;
      shown = y.shown;
      end = y.end;
      holds = subst (λ (d : List Payload). HoldsData (take y.size held) d y.end) same y.holds;
      named = y.named;
    }

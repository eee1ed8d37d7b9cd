-- The runs of specs/Examples are runs of a router, step by step.
use Rattle.std.proofs.Common.{◌≡◌, ℕ, false, ◌+◌, ◌<◌, ◌≤◌}
use Rattle.std.proofs.Common.{refl, arith, inl, inr, subst}
use Rattle.session_router.specs.declared.head.Kind.TheVariants as kinds
use Rattle.session_router.specs.declared.router.Phase.{Phase}
use Rattle.session_router.specs.declared.router.Phase.TheVariants as phases
use Rattle.session_router.specs.declared.event.Event.TheVariants as events
use Rattle.session_router.specs.declared.event.Action.TheVariants as actions
use Rattle.session_router.specs.declared.event.Cause.TheVariants as causes
use Rattle.session_router.specs.Rules.{Fresh}
use Rattle.session_router.specs.Heeding.{ends_for}
use Rattle.session_router.specs.Pace.{IsLimited}
use Rattle.session_router.specs.Exchange.{Exchange, exchanged, none_yet}
use Rattle.session_router.specs.Recovery.{AnyStep, ComesInTime, IsBeside, Unshown, served_until}
use Rattle.session_router.specs.Recovery.AnswersWell.{closes, responds}
use Rattle.session_router.specs.Recovery.GoesOnWell.{ends_data}
use Rattle.session_router.specs.Recovery.IsMadeWell.{are_made}
use Rattle.session_router.specs.Recovery.IsBeside.{beside_from, beside_on}
use Rattle.session_router.specs.Step.{IsStep}
use Rattle.session_router.specs.Histories.{IsHistory, IsNew, empty_host}
use Rattle.session_router.specs.Histories.IsHistory.{run_begins, run_goes_on}
use Rattle.session_router.specs.Safety.{IsAllowed, MayStep}
use Rattle.session_router.specs.Asking.{IsTimed}
use Rattle.session_router.specs.Examples.{back, fallen, fifth, first, first_answer, first_asked}
use Rattle.session_router.specs.Examples.{first_whole, fourth, high, high_asked, low, low_answer}
use Rattle.session_router.specs.Examples.{low_asked, low_begun, low_unit, low_whole, lower}
use Rattle.session_router.specs.Examples.{numbering}
use Rattle.session_router.specs.Examples.{query_for_all, rise, rise_asked, rise_lost, risen, second}
use Rattle.session_router.specs.Examples.{seven}
use Rattle.session_router.specs.Examples.{sixth, third, unit_of_kind, usual}
use Rattle.session_router.proofs.Allowed.{allowed}
use Rattle.session_router.proofs.Steps.{asks_at, begins_at, completes_at, connects_at, falls_at}
use Rattle.session_router.proofs.Steps.{rises_at, shows_at}

pub le : (a b : ℕ) → a ≤ a + b
le a b = omega arith

lt : (a b : ℕ) → a < a + b + 1
lt a b = omega arith

-- ---- the first run

connects : IsStep first 0 events.Tick actions.Connect second
connects = connects_at first 0 refl (le 0 0) (λ e. cc)

asks : IsStep second 10 events.Connected (actions.Ask (query_for_all 1)) third
asks = asks_at second 10 refl (lt 10 29989) (λ e. cc)

begins : IsStep third 20 (events.Came (unit_of_kind kinds.CacheResponse)) actions.Begin fourth
begins = begins_at third 20 (unit_of_kind kinds.CacheResponse) refl (lt 20 119989) (λ e. cc) refl
    refl (λ e. cc)

ends : IsStep fourth 30 (events.Came (unit_of_kind kinds.EndOfData)) (actions.Apply false) fifth
ends = completes_at fourth 30 (unit_of_kind kinds.EndOfData) refl (lt 30 119979) (λ e. cc) refl refl
    refl (λ e. cc) (λ e. cc)

pub shows : IsStep fifth 40 events.Applied actions.Show sixth
shows = shows_at fifth 40 refl (lt 40 7199989) (λ e. cc)

pub begins_new : IsNew usual first
begins_new = record {
  settings = refl;
  phase = refl;
  has_data = refl;
  due = refl;
  asked = refl;
  rises = refl;
  fell = refl;
}

has_asked : IsHistory numbering first_asked third empty_host
has_asked =
    run_goes_on 10 0 events.Connected _ third _ second _
    (run_goes_on 0 0 events.Tick actions.Connect second _ first _ (run_begins first begins_new)
    tt connects)
    refl asks

pub is_run : IsHistory numbering first_answer sixth seven
is_run =
    run_goes_on 40 0 events.Applied actions.Show sixth _ fifth _
    (run_goes_on 30 7 (events.Came (unit_of_kind kinds.EndOfData)) (actions.Apply false) fifth _
    fourth _
    (run_goes_on 20 0 (events.Came (unit_of_kind kinds.CacheResponse)) actions.Begin fourth _
    third _
    has_asked tt begins)
    tt ends)
    (7, refl) shows

pub is_timed : IsTimed first_answer
is_timed = (
  le 30 10,
  lt 40 9223372036854775767,
  (
    le 20 10,
    lt 30 9223372036854775777,
    (
      le 10 10,
      lt 20 9223372036854775787,
      (
        le 0 10,
        lt 10 9223372036854775797,
        (le 0 0, lt 0 9223372036854775807, tt),
      ),
    ),
  ),
)

-- ---- a cache that keeps the rules serves it

pub untimed : (x : Exchange) (n : ℕ) → x.phase ≡ phases.Offline → ComesInTime x n
untimed x n q (inl l) = absurd (subst (λ (p : Phase). IsLimited p) q l)
untimed x n q (inr e) = cc

pub is_served : IsBeside Unshown 1 first none_yet 0 fifth (exchanged usual first_whole) 30
is_served =
    beside_on fourth _ 20 30 (events.Came (unit_of_kind kinds.EndOfData)) (actions.Apply false)
    fifth
    (beside_on third _ 10 20 (events.Came (unit_of_kind kinds.CacheResponse)) actions.Begin fourth
    (beside_on second _ 0 10 events.Connected (actions.Ask (query_for_all 1)) third
    (beside_on first none_yet 0 0 events.Tick actions.Connect second beside_from (le 0 0) (le 0 0)
    (untimed none_yet 0 refl) (inl refl) connects ((λ e. cc), tt))
    (le 0 10) (le 10 29990) (λ y. lt 10 29989) (inr (inr refl)) asks ((λ e. cc), tt))
    (le 10 10) (le 20 119990) (λ y. lt 20 119989)
    (inr (inr (responds (unit_of_kind kinds.CacheResponse) refl refl))) begins ((λ e. cc), tt))
    (le 20 10) (le 30 119980) (λ y. lt 30 119979)
    (inr (inr (ends_data (unit_of_kind kinds.EndOfData)
    (record { kind = refl; version = refl; session = refl }) (λ c. cc) (λ c. cc))))
    ends ((λ e. cc), tt)

pub is_beside : IsBeside AnyStep 1 first none_yet 0 sixth (exchanged usual first_answer) 40
is_beside =
    beside_on fifth _ 30 40 events.Applied actions.Show sixth
    (beside_on fourth _ 20 30 (events.Came (unit_of_kind kinds.EndOfData)) (actions.Apply false)
    fifth
    (beside_on third _ 10 20 (events.Came (unit_of_kind kinds.CacheResponse)) actions.Begin fourth
    (beside_on second _ 0 10 events.Connected (actions.Ask (query_for_all 1)) third
    (beside_on first none_yet 0 0 events.Tick actions.Connect second beside_from (le 0 0) (le 0 0)
    (untimed none_yet 0 refl) (inl refl) connects tt)
    (le 0 10) (le 10 29990) (λ y. lt 10 29989) (inr (inr refl)) asks tt)
    (le 10 10) (le 20 119990) (λ y. lt 20 119989)
    (inr (inr (responds (unit_of_kind kinds.CacheResponse) refl refl))) begins tt)
    (le 20 10) (le 30 119980) (λ y. lt 30 119979)
    (inr (inr (ends_data (unit_of_kind kinds.EndOfData)
    (record { kind = refl; version = refl; session = refl }) (λ c. cc) (λ c. cc))))
    ends tt)
    (le 30 10) (le 40 119970) (λ y. lt 40 7199989) (inr (inr are_made)) shows tt

pub by_numbers : served_until first 0 ≡ 542000
by_numbers = refl

-- ---- the second run

falls : IsStep third 20 events.Lost (ends_for causes.Lower) fallen
falls = falls_at third 20 refl (lt 20 119989) (λ e. cc) refl (lt 0 0)

connects_back : IsStep fallen 20 events.Tick actions.Connect back
connects_back = connects_at fallen 20 refl (le 20 0) (λ e. cc)

asks_low : IsStep back 30 events.Connected (actions.Ask (query_for_all 0)) low_asked
asks_low = asks_at back 30 refl (lt 30 29989) (λ e. cc)

begins_low : IsStep low_asked 40 (events.Came (low_unit kinds.CacheResponse)) actions.Begin
    low_begun
begins_low = begins_at low_asked 40 (low_unit kinds.CacheResponse) refl (lt 40 119989) (λ e. cc)
    refl refl (λ e. cc)

ends_low : IsStep low_begun 50 (events.Came (low_unit kinds.EndOfData)) (actions.Apply false)
    low_whole
ends_low = completes_at low_begun 50 (low_unit kinds.EndOfData) refl (lt 50 119979) (λ e. cc) refl
    refl refl (λ e. cc) (λ e. cc)

shows_low : IsStep low_whole 60 events.Applied actions.Show low
shows_low = shows_at low_whole 60 refl (lt 60 7199989) (λ e. cc)

pub fresh_low : Fresh low 3600050
fresh_low e = lt 3600050 3599999

pub rises_again : IsStep low 3600050 events.Tick (ends_for causes.Higher) risen
rises_again = rises_at low 3600050 refl (le 3600050 0) (le 1000 3599020) refl (le 3600020 30)
    fresh_low

connects_high : IsStep risen 3600050 events.Tick actions.Connect high
connects_high = connects_at risen 3600050 refl (le 3600050 0) (λ e. lt 3600050 3599999)

asks_high : IsStep high 3600060 events.Connected (actions.Ask (query_for_all 1)) high_asked
asks_high = asks_at high 3600060 refl (lt 3600060 29989) (λ e. lt 3600060 3599989)

falls_again : IsStep high_asked 3600070 events.Lost (ends_for causes.Lower) lower
falls_again = falls_at high_asked 3600070 refl (lt 3600070 119989) (λ e. lt 3600070 3599979) refl
    (lt 0 0)

pub has_low : IsHistory numbering low_answer low seven
has_low =
    run_goes_on 60 0 events.Applied actions.Show low _ low_whole _
    (run_goes_on 50 7 (events.Came (low_unit kinds.EndOfData)) (actions.Apply false) low_whole _
    low_begun _
    (run_goes_on 40 0 (events.Came (low_unit kinds.CacheResponse)) actions.Begin low_begun _
    low_asked _
    (run_goes_on 30 0 events.Connected _ low_asked _ back _
    (run_goes_on 20 0 events.Tick actions.Connect back _ fallen _
    (run_goes_on 20 0 events.Lost (ends_for causes.Lower) fallen _ third _ has_asked tt falls)
    tt connects_back)
    refl asks_low)
    tt begins_low)
    tt ends_low)
    (7, refl) shows_low

pub has_risen : IsHistory numbering rise risen seven
has_risen =
    run_goes_on 3600050 0 events.Tick (ends_for causes.Higher) risen _ low _ has_low tt rises_again

has_tried : IsHistory numbering rise_asked high_asked seven
has_tried =
    run_goes_on 3600060 0 events.Connected _ high_asked _ high _
    (run_goes_on 3600050 0 events.Tick actions.Connect high _ risen _ has_risen tt connects_high)
    refl asks_high

pub may_have_tried : IsAllowed numbering rise_asked high_asked seven
may_have_tried = allowed numbering rise_asked high_asked seven has_tried

pub may_fall : MayStep high_asked 3600070 events.Lost (ends_for causes.Lower) lower
may_fall = record { rule = falls_again.rule; fresh = falls_again.fresh; settings = refl }

-- a cache of version 0 that closes without a word
pub is_served_again :
    IsBeside Unshown 0 risen (record (exchanged usual rise) { spoken = 0 }) 3600050 lower
    (record (exchanged usual rise_lost) { spoken = 0 }) 3600070
is_served_again =
    beside_on high_asked _ 3600060 3600070 events.Lost (ends_for causes.Lower) lower
    (beside_on high _ 3600050 3600060 events.Connected (actions.Ask (query_for_all 1)) high_asked
    (beside_on risen _ 3600050 3600050 events.Tick actions.Connect high beside_from (le 3600050 0)
    (le 3600050 0) (untimed (record (exchanged usual rise) { spoken = 0 }) 3600050 refl) (inl refl)
    connects_high ((λ e. cc), tt))
    (le 3600050 10) (le 3600060 29990) (λ y. lt 3600060 29989) (inr (inr refl)) asks_high
    ((λ e. cc), tt))
    (le 3600060 10) (le 3600070 119990) (λ y. lt 3600070 119989)
    (inr (inr (closes (inr (lt 0 0, refl))))) falls_again ((λ e. cc), inr (lt 0 0))

pub by_numbers_again : served_until risen 3600050 ≡ 3600050 + 1626000
by_numbers_again = refl

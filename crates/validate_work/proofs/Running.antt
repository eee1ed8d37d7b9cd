-- What a run leaves, by what was read of its files.
use Rattle.std.proofs.Common.{◌≡◌, ℕ, List, Option, Some, None, Result, Ok, Err, refl, ap, subst}
use Rattle.std.proofs.Common.{option_map, unwrap_or}
use Rattle.std.specs.Borrow.{Bor}
use Rattle.rtr_units.specs.StopCauses.{ReaderState, WriterState}
use Rattle.rtr_payload.specs.Payloads.{Payload}
use Rattle.data_slurm.specs.declared.entry.Entry.{Entry}
use Rattle.validate_work.specs.RefusedLines.{RefusedLine}
use Rattle.validate_work.specs.RoutesStatus.{ReadsAsked, ReadsList, RunsAgainst, RunsAnswers}
use Rattle.validate_work.specs.RoutesStatus.{RunsRoutes}
use Rattle.validate_work.specs.declared.lists.Lists.{Lists}
use Rattle.validate_work.specs.declared.route_text.TableRoute.{TableRoute}
use Rattle.validate_work.specs.declared.words.Options.{Options}
use Rattle.validate_work.specs.declared.words.RouteWords.{RouteWords}

module _ {T : Type 0} (Hears : T → RefusedLine → T → Type 0) (now : ℕ) (es : List Entry)
    (o : Options) (at : Option ℕ) (time : at ≡ Some (unwrap_or o.at now)) (first : T)
    (status : ℕ) (Unread : Type 0) (left rest : Option (List ℕ)) (old new : ReaderState)
    (before after : WriterState) where
  read_at : (Quiet : Type 0) (r : Result (List Payload) ℕ) (a b : Option (List ℕ)) →
      ReadsList at es Quiet r a b → ReadsList (Some (unwrap_or o.at now)) es Quiet r a b
  read_at Quiet r a b h = subst (λ t. ReadsList t es Quiet r a b) time h

  -- one list
  pub runs_one : (words : Option RouteWords) (route : Option TableRoute) (deaf last : T)
      (ls : Lists) → ReadsAsked words (Ok route) →
      ReadsList at es (deaf ≡ first) (Ok ls.used.now) left rest → ls.other ≡ None →
      RunsAnswers Hears o route ls status deaf old new before after →
      (status ≡ 0 → last ≡ deaf) →
      RunsRoutes Hears now es o words first last status Unread left rest old new before after
  runs_one words route deaf last ls asked reads alone answers quiet = (
    Ok route,
    asked,
    (
      deaf,
      Ok ls.used.now,
      read_at (deaf ≡ first) (Ok ls.used.now) left rest reads,
      (ls, refl, ap (λ x. option_map (λ b. b.now) x) alone, answers, quiet),
    ),
  )

  pub reads_none : (words : Option RouteWords) (route : Option TableRoute) (deaf last : T) →
      ReadsAsked words (Ok route) → ReadsList at es (deaf ≡ first) (Err status) left rest →
      new ≡ old → after ≡ before →
      RunsRoutes Hears now es o words first last status Unread left rest old new before after
  reads_none words route deaf last asked reads same kept = (
    Ok route,
    asked,
    (deaf, Err status, read_at (deaf ≡ first) (Err status) left rest reads, (refl, same, kept)),
  )

  -- two lists
  pub runs_both : (mid deaf last : T) (other : Bor (List Payload)) (ls : Lists)
      (left' rest' : Option (List ℕ)) → ReadsList at es (mid ≡ first) (Ok ls.used.now) left rest →
      ReadsList at es (deaf ≡ mid) (Ok other.now) left' rest' → ls.other ≡ Some other →
      RunsAnswers Hears o None ls status deaf old new before after →
      (status ≡ 0 → last ≡ deaf) → RunsAgainst Hears now es o first last status left rest Unread
      left' rest' old new before after
  runs_both mid deaf last other ls left' rest' reads reads' both answers quiet = (
    mid,
    Ok ls.used.now,
    read_at (mid ≡ first) (Ok ls.used.now) left rest reads,
    (
      deaf,
      Ok other.now,
      read_at (deaf ≡ mid) (Ok other.now) left' rest' reads',
      (ls, refl, ap (λ x. option_map (λ b. b.now) x) both, answers, quiet),
    ),
  )

  pub first_refused : (mid last : T) (left' rest' : Option (List ℕ)) →
      ReadsList at es (mid ≡ first) (Err status) left rest → Unread → new ≡ old →
      after ≡ before → RunsAgainst Hears now es o first last status left rest Unread
      left' rest' old new before after
  first_refused mid last left' rest' reads unread same kept = (
    mid,
    Err status,
    read_at (mid ≡ first) (Err status) left rest reads,
    (unread, (refl, same, kept)),
  )

  pub second_refused : (mid deaf last : T) (d : List Payload) (left' rest' : Option (List ℕ)) →
      ReadsList at es (mid ≡ first) (Ok d) left rest →
      ReadsList at es (deaf ≡ mid) (Err status) left' rest' → new ≡ old → after ≡ before →
      RunsAgainst Hears now es o first last status left rest Unread left' rest' old new before
      after
  second_refused mid deaf last d left' rest' reads reads' same kept = (
    mid,
    Ok d,
    read_at (mid ≡ first) (Ok d) left rest reads,
    (deaf, Err status, read_at (deaf ≡ mid) (Err status) left' rest' reads', (refl, same, kept)),
  )

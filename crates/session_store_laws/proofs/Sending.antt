-- Answers with data are of data that the stores served.
use Rattle.std.proofs.Common.{◌≡◌, ◌⊎◌, ◌++◌, true, List, [], ◌∷◌, refl, sym, ◌∙◌, subst}
use Rattle.std.proofs.Common.{inl, inr}
use Rattle.std.specs.Prelude.{⊤}
use Rattle.std.specs.List.{AllByRecursion}
use Rattle.rtr_units.specs.End.{end_list}
use Rattle.rtr_units.specs.Queries.{bare_list}
use Rattle.data_memory.specs.Deltas.{all_for, change_forms, changes_for}
use Rattle.data_history.specs.Snapshots.{Snapshot}
use Rattle.session_cache.specs.declared.event.Answer.{Answer}
use Rattle.session_cache.specs.declared.event.Answer.TheVariants as answers
use Rattle.session_cache.specs.Worlds.{IsIn}
use Rattle.session_laws.specs.Editions.{PayloadEdition}
use Rattle.session_laws.specs.Written.{CacheWrites, IsSentFrom}
use Rattle.session_server_laws.specs.Services.{Turn, WritesTurn}
use Rattle.session_server_laws.specs.Talks.{AllKeepTalking, AnswersQuery, EndsService, IsAnswerTo}
use Rattle.session_server_laws.specs.Talks.{IsLast, IsTalk, KeepsTalking, TellsNews}
use Rattle.session_server_laws.specs.Talks.IsTalk.{talk_ended, talk_goes_on}
use Rattle.session_store_laws.specs.SentOfStore.{SendsServed, SendsServedIfAny}
use Rattle.session_store_laws.specs.ServedData.{AreServed, IsEditionOf}
use Rattle.session_store_laws.proofs.Answering.{same_end}
use Rattle.session_store_laws.proofs.OneName.{of_edition}

-- answers with data are those to queries, where there are data
abbrev HasIfData : Answer → PayloadEdition → Type 0
HasIfData answers.All p = p.name.has ≡ true
HasIfData (answers.Changes since) p = p.name.has ≡ true
HasIfData _ p = ⊤

module _ (served : List Snapshot) (had : List PayloadEdition) (are : AreServed served had) where
  of_answer : (a : Answer) (t : Turn) → t.answer ≡ a → HasIfData a t.present
      → WritesTurn had t.version t → SendsServed served a t
  of_answer answers.All t is has w =
      let x : (x : Snapshot) × IsIn served x × IsEditionOf x t.present =
      of_edition served had t.present are w.present has in
      let b : CacheWrites t.version t.old t.present answers.All t.bytes =
      subst (λ a. CacheWrites t.version t.old t.present a t.bytes) is w.bytes in
      record {
        snapshot = x.0;
        was = x.1;
        bytes = b
            ∙ (λ i. bare_list t.version 3 (x.2.session i)
            ++ (change_forms t.version (all_for t.version (x.2.payloads i))
            ++ end_list (same_end t.version x.0 t.present x.2 i)));
      }
  of_answer (answers.Changes since) t is has w =
      let x : (x : Snapshot) × IsIn served x × IsEditionOf x t.present =
      of_edition served had t.present are w.present has in
      let from : IsSentFrom had t.present (answers.Changes since) t.old =
      subst (λ a. IsSentFrom had t.present a t.old) is w.from in
      let y : (y : Snapshot) × IsIn served y × IsEditionOf y t.old =
      of_edition served had t.old are from.1 from.0 in
      let b : CacheWrites t.version t.old t.present (answers.Changes since) t.bytes =
      subst (λ a. CacheWrites t.version t.old t.present a t.bytes) is w.bytes in
      record {
        snapshot = x.0;
        was = x.1;
        old = y.0;
        old_was = y.1;
        session = sym y.2.session ∙ from.2 ∙ x.2.session;
        serial = sym y.2.serial ∙ from.3;
        bytes = b
            ∙ (λ i. bare_list t.version 3 (x.2.session i)
            ++ (change_forms t.version
            (changes_for t.version (y.2.payloads i) (x.2.payloads i))
            ++ end_list (same_end t.version x.0 t.present x.2 i)));
      }
  of_answer answers.Wait t is has w = tt
  of_answer answers.Reset t is has w = tt
  of_answer answers.NoData t is has w = tt
  of_answer answers.Notify t is has w = tt
  of_answer (answers.End x) t is has w = tt

  has_data : (t : Turn) (a : Answer) → t.answer ≡ a → AnswersQuery t ⊎ TellsNews t
      → HasIfData a t.present
  has_data t answers.All is (inl q) =
      (subst (λ a. IsAnswerTo q.head t.present.name a) is q.fits).1
  has_data t answers.All is (inr n) = absurd (let e = sym is ∙ n.notify in cc)
  has_data t (answers.Changes since) is (inl q) =
      (subst (λ a. IsAnswerTo q.head t.present.name a) is q.fits).1
  has_data t (answers.Changes since) is (inr n) = absurd (let e = sym is ∙ n.notify in cc)
  has_data t answers.Wait is q = tt
  has_data t answers.Reset is q = tt
  has_data t answers.NoData is q = tt
  has_data t answers.Notify is q = tt
  has_data t (answers.End x) is q = tt

  keeps : (t : Turn) → KeepsTalking had t → SendsServedIfAny served t
  keeps t k = inr (of_answer t.answer t refl (has_data t t.answer refl k.is) k.written)

  all_keep : (ts : List Turn) → AllKeepTalking had ts
      → AllByRecursion (λ t. SendsServedIfAny served t) ts
  all_keep [] all = tt
  all_keep (t ∷ ts) all = (keeps t all.0, all_keep ts all.1)

  ends : (t : Turn) → EndsService had t → SendsServedIfAny served t
  ends t e = go e.ends
    where
      go : IsLast had t ⊎ (t.bytes ≡ []) → SendsServedIfAny served t
      go (inl last) = inr (subst (λ a. SendsServed served a t) (sym last.end) tt)
      go (inr none) = inl none

  pub sends_served : (ts : List Turn) → IsTalk had ts
      → AllByRecursion (λ t. SendsServedIfAny served t) ts
  sends_served ts (talk_goes_on us all) = all_keep us all
  sends_served ts (talk_ended t us all e) = (ends t e, all_keep us all)

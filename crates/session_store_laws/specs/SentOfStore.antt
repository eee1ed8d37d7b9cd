-- What a cache sends of the data that its stores served (RFC 8210 sections 8.1 and 8.2).
use Rattle.std.specs.Prelude.{◌≡◌, ◌⊎◌, ⊤, ℕ, List, [], ◌++◌}
use Rattle.rtr_units.specs.End.{end_list}
use Rattle.rtr_units.specs.Queries.{bare_list}
use Rattle.rtr_wire.specs.Sequences.{end_for}
use Rattle.data_memory.specs.Data.{Change}
use Rattle.data_memory.specs.Deltas.{all_for, change_forms, changes_for}
use Rattle.data_history.specs.Snapshots.{Snapshot}
use Rattle.session_cache.specs.declared.event.Answer.{Answer}
use Rattle.session_cache.specs.declared.event.Answer.TheVariants as answers
use Rattle.session_cache.specs.Worlds.{IsIn}
use Rattle.session_server_laws.specs.Services.{Turn}

-- a cache response, the units of these changes, and the end of these data, in a version (section
-- 5.5)
abbrev pub response_with : (version : ℕ) → Snapshot → List Change → List ℕ
response_with v x cs =
    bare_list v 3 x.end.session ++ (change_forms v cs ++ end_list (end_for v x.end))

-- all data that were served once (section 8.1)
pub record SendsAllServed (served : List Snapshot) (t : Turn) : Type 0 where
  pub snapshot : Snapshot
  pub was : IsIn served snapshot
  pub bytes :
      t.bytes ≡ response_with t.version snapshot (all_for t.version snapshot.payloads)

-- the changes to them from those of this serial number, which were served, too (section 8.2)
pub record SendsChangesServed (served : List Snapshot) (since : ℕ) (t : Turn) : Type 0 where
  pub snapshot : Snapshot
  pub was : IsIn served snapshot
  pub old : Snapshot
  pub old_was : IsIn served old
  pub session : old.end.session ≡ snapshot.end.session
  pub serial : old.end.serial ≡ since
  pub bytes :
      t.bytes
      ≡ response_with t.version snapshot
      (changes_for t.version old.payloads snapshot.payloads)

-- and these are the present data
abbrev pub SendsChangesTo : (present : Snapshot) → (served : List Snapshot) → (since : ℕ) → Turn →
    Type 0
SendsChangesTo x served since t = (s : SendsChangesServed served since t) × (s.snapshot ≡ x)

abbrev pub SendsServed : List Snapshot → Answer → Turn → Type 0
SendsServed served answers.All t = SendsAllServed served t
SendsServed served (answers.Changes since) t = SendsChangesServed served since t
SendsServed served _ t = ⊤

-- Where the host gave up, nothing was sent.
abbrev pub SendsServedIfAny : List Snapshot → Turn → Type 0
SendsServedIfAny served t = (t.bytes ≡ []) ⊎ SendsServed served t.answer t

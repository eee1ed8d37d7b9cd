-- What adding one payload leaves of data. Only contracts of private functions cite these.
use Rattle.std.specs.Prelude.{◌≡◌, ⊤, ℕ, Bool, true, false, Some, None, List, Result, Ok, Err}
use Rattle.std.specs.Prelude.{if◌then◌else◌}
use Rattle.std.specs.BTreeSet.{replace_key}
use Rattle.rtr_payload.specs.Payloads.{Payload}
use Rattle.data_memory.specs.Data.{has, name_cmp}
use Rattle.make_work.specs.Gathering.{refusal_after}
use Rattle.make_work.specs.declared.item.Reason.{Reason}
use Rattle.make_work.specs.declared.item.Reason.TheVariants.{Memory}

-- the payload is there, once
abbrev pub with_payload : Payload → List Payload → List Payload
with_payload p d = if has d p then d else replace_key name_cmp d p

-- whether memory ran out
abbrev pub is_memory : Reason → Bool
is_memory Memory = true
is_memory other = false

-- it isn't refused and is there; or it is refused, or memory ran out
abbrev pub AddsPayload :
    {T : Type 0} → ℕ → Bool → Payload → Result T Reason → List Payload → List Payload → Type 0
AddsPayload v leaves_out p (Ok t) old new =
    (refusal_after v leaves_out old p ≡ None) × (new ≡ with_payload p old)
AddsPayload v leaves_out p (Err Memory) old new = ⊤
AddsPayload v leaves_out p (Err r) old new = refusal_after v leaves_out old p ≡ Some r

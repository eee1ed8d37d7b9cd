-- What a value of `Data` holds, and what a call leaves of it.
use Rattle.std.specs.Prelude.{◌≡◌, ℕ, List, ◌++◌, map, length, Result, Ok, Err, IsOk}
use Rattle.std.specs.Prelude.{Option, Some, None, nat_lt, if◌then◌else◌}
use Rattle.std.specs.List.{AllByRecursion}
use Rattle.rtr_base.specs.declared.action.Action.TheVariants.{Announce}
use Rattle.rtr_payload.specs.Meanings.{origin_of, key_of}
use Rattle.rtr_payload.specs.Payloads.{Payload, origin, key, aspa}
use Rattle.rtr_payload.specs.declared.payload.RouteOrigin.{RouteOrigin}
use Rattle.rtr_payload.specs.declared.payload.RouterKey.{RouterKey}
use Rattle.data_memory.specs.Data.{changed}
use Rattle.data_memory.specs.declared.change_error.ChangeError.{ChangeError}
use Rattle.data_memory.specs.declared.change_error.ChangeError.TheVariants.{KeyTooLong, NoProviders}
use Rattle.data_memory.specs.declared.change_error.ChangeError.TheVariants.{Memory}
use Rattle.data_memory.specs.declared.data.Data.TheInside.{Inside}

-- a customer and its providers
abbrev pub entry_of : ℕ × List ℕ → Payload
entry_of e = aspa (record { customer = e.0; providers = e.1 })

-- these origins, keys and ASPAs, in this order
abbrev pub joined : List RouteOrigin → List RouterKey → List (ℕ × List ℕ) → List Payload
joined origins keys aspas = map origin_of origins ++ (map key_of keys ++ map entry_of aspas)

abbrev pub payloads : Inside → List Payload
payloads d = joined d.origins.keys d.router_keys.keys d.aspas.entries

-- Why no unit that is read announces the payload: key info for which a unit of 65535 bytes has no
-- room, or an ASPA without a provider.
abbrev pub unfit : Payload → Option ChangeError
unfit (origin o) = None
unfit (key k) = if nat_lt 65503 (length k.info) then Some KeyTooLong else None
unfit (aspa a) = if nat_lt 0 (length a.providers) then None else Some NoProviders

-- some unit that is read announces it
abbrev pub IsFit : Payload → Type 0
IsFit p = unfit p ≡ None

abbrev pub AreFit : List Payload → Type 0
AreFit d = AllByRecursion IsFit d

abbrev pub unless_unfit : {T : Type 0} → Option ChangeError → Result T ChangeError →
    Result T ChangeError
unless_unfit None r = r
unless_unfit (Some e) r = Err e

-- what an announcement makes of data: what is unfit is refused
abbrev pub announcing : Payload → List Payload → Result (List Payload) ChangeError
announcing p d = unless_unfit (unfit p) (changed Announce p d)

-- What a change leaves, by what it is to make of the data: that, or the data as it was where it is
-- refused. It asks for no memory.
abbrev pub Makes : {T : Type 0} → Result T ChangeError → Result (List Payload) ChangeError →
    List Payload → List Payload → Type 0
Makes (Ok t) wanted old new = wanted ≡ Ok new
Makes (Err e) wanted old new = (wanted ≡ Err e) × (new ≡ old)

-- The same of a change that asks for memory: where it runs out in a change that isn't refused, the
-- data is as it was, too.
abbrev pub Leaves : {T : Type 0} → Result T ChangeError → Result (List Payload) ChangeError →
    List Payload → List Payload → Type 0
Leaves (Ok t) wanted old new = wanted ≡ Ok new
Leaves (Err Memory) wanted old new = IsOk wanted × (new ≡ old)
Leaves (Err e) wanted old new = (wanted ≡ Err e) × (new ≡ old)

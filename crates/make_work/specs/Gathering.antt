-- What is gathered of payloads that were read, for one protocol version: this library's own. What a
-- version has: RFC 6810, RFC 8210, ASPAs as in the Rust crate.
use Rattle.std.specs.Prelude.{◌≡◌, ⊤, ℕ, ◌^◌, ◌-◌, min, Bool, not, ◌&&◌, nat_lt, length}
use Rattle.std.specs.Prelude.{List, [], ◌∷◌, ◌++◌, map, filter, Option, Some, None, option_map}
use Rattle.std.specs.Prelude.{Result, Ok, Err, if◌then◌else◌}
use Rattle.std.specs.List.{AllByRecursion}
use Rattle.rtr_payload.specs.Meanings.{payload_of}
use Rattle.rtr_payload.specs.Payloads.{Payload, smallest_version}
use Rattle.data_memory.specs.Contents.{unfit}
use Rattle.data_memory.specs.Data.{IsData, has, has_name}
use Rattle.data_memory.specs.Sequences.{IsSendable}
use Rattle.make_work.specs.declared.gathering.Gathered.{Gathered}
use Rattle.make_work.specs.declared.item.Item.{Item}
use Rattle.make_work.specs.declared.item.Reason.{Reason}
use Rattle.make_work.specs.declared.item.Reason.TheVariants.{Version, OtherProviders, Change}
use Rattle.make_work.specs.declared.item.Reason.TheVariants.{Memory}
use Rattle.make_work.specs.declared.item.Refusal.{Refusal}

-- the payload of an item that was read
abbrev pub item_payload : Item → Payload
item_payload i = payload_of i.payload

-- whether version v has no such payload
abbrev pub is_lacking : ℕ → Payload → Bool
is_lacking v p = nat_lt v (smallest_version p)

-- those of the payloads that version v lacks
abbrev pub lacked : ℕ → List Payload → List Payload
lacked v d = filter (is_lacking v) d

-- Why a payload is refused after these others, if it is: the version lacks it and such are not left
-- out, another ASPA of its customer came before, or no reader would accept it. What came before
-- isn't refused.
abbrev pub refusal_after : ℕ → Bool → List Payload → Payload → Option Reason
refusal_after v leaves_out before p =
    if not leaves_out && is_lacking v p then Some (Version v) else
    if has before p then None else
    if has_name before p then Some OtherProviders else
    option_map Change (unfit p)

abbrev pub refused_at : Item → Option Reason → Option Refusal → Option Refusal
refused_at i (Some r) later = Some (record { place = i.place; reason = r })
refused_at i None later = later

-- the first of the items that is refused, with its place, where these payloads came before
abbrev pub first_refused : ℕ → Bool → List Payload → List Item → Option Refusal
first_refused v leaves_out before [] = None
first_refused v leaves_out before (i ∷ items) =
    refused_at i (refusal_after v leaves_out before (item_payload i))
    (first_refused v leaves_out (before ++ item_payload i ∷ []) items)

-- the data holds just these payloads: each of them, once and in order, and no other
pub record HoldsJust (d ps : List Payload) : Type 0 where
  pub in_order : IsData d
  pub members : (p : Payload) → has d p ≡ has ps p

-- the data holds just the payloads of the items, none of which is refused; this many of the
-- payloads the version lacks, or 2^64 - 1 where there are more
pub record GathersAll (v : ℕ) (leaves_out : Bool) (items : List Item) (d : List Payload)
    (left_out : ℕ) : Type 0 where
  pub payloads : HoldsJust d (map item_payload items)
  pub none : first_refused v leaves_out [] items ≡ None
  pub others : left_out ≡ min (length (lacked v d)) (2 ^ 64 - 1)
  pub sendable : AllByRecursion IsSendable d

-- the first item that is refused is named, unless memory ran out
abbrev pub NamesFirst : ℕ → Bool → List Item → Refusal → Reason → Type 0
NamesFirst v leaves_out items r Memory = ⊤
NamesFirst v leaves_out items r other = first_refused v leaves_out [] items ≡ Some r

abbrev pub Gathers : ℕ → Bool → List Item → Result Gathered Refusal → Type 0
Gathers v leaves_out items (Ok g) = GathersAll v leaves_out items g.payloads g.left_out
Gathers v leaves_out items (Err r) = NamesFirst v leaves_out items r r.reason

-- The editions of a cache: sets of payloads, and what a router shows of them.
use Rattle.std.specs.Prelude.{◌≡◌, ℕ, Option, Some, None, List, [], map, length, Result, Ok, Err}
use Rattle.rtr_payload.specs.Payloads.{Payload}
use Rattle.rtr_payload.specs.Units.{form_of}
use Rattle.rtr_payload.specs.Payloads.Payload.{origin, key, aspa}
use Rattle.data_memory.specs.Data.{Change, IsData, announcement}
use Rattle.data_memory.specs.Changes.{after_all, changes}
use Rattle.data_memory.specs.Deltas.{data_for, unit_of}
use Rattle.data_memory.specs.declared.change_error.ChangeError.{ChangeError}
use Rattle.session_router.specs.declared.head.Kind.{Kind}
use Rattle.session_router.specs.declared.head.Kind.TheVariants as kinds
use Rattle.session_router.specs.Histories.{Host}
use Rattle.session_cache.specs.declared.event.Present.{Present}
use Rattle.session_cache.specs.Worlds.{Edition, Source, WasHad, World}

-- Payloads that a cache has, what names them, and the times that their ends of data name. Where
-- `name` says that there are none, the others say nothing.
pub record PayloadEdition : Type 0 where
  pub name : Present
  pub payloads : List Payload
  pub are_data : IsData payloads
  pub refresh : ℕ
  pub retry : ℕ
  pub expire : ℕ

-- as each version has them
abbrev pub edition_of : PayloadEdition → Edition (List Payload)
edition_of e = record {
  name = e.name;
  for_version = λ v. data_for v e.payloads;
  refresh = e.refresh;
  retry = e.retry;
  expire = e.expire;
}

abbrev pub editions_of : List PayloadEdition → List (Edition (List Payload))
editions_of es = map edition_of es

-- the kind of unit that a payload is sent in (RFC 8210 sections 5.6, 5.7, 5.10)
abbrev pub unit_kind : Payload → Kind
unit_kind (origin o) = kinds.Prefix
unit_kind (key k) = kinds.RouterKey
unit_kind (aspa a) = kinds.Aspa

-- what changes made, unless one was refused
abbrev pub if_made : Result (List Payload) ChangeError → Option (List Payload)
if_made (Ok d) = Some d
if_made (Err e) = None

abbrev pub made_from : Option (List Payload) → List Change → Option (List Payload)
made_from None cs = if_made (after_all cs (Ok []))
made_from (Some d) cs = if_made (after_all cs (Ok d))

-- what answers a reset query and a serial query
abbrev pub answered_with : Option (List Payload) → List Payload → List Change
answered_with None new = map announcement new
answered_with (Some old) new = changes old new

-- Made by changes in turn, as `Data::apply` and `apply_in_order` make them; sent as `write_all` and
-- `write_delta` write them.
abbrev pub payload_source : Source (List Payload) Change
payload_source = record {
  make = made_from;
  delta = answered_with;
  kind = λ c. unit_kind c.payload;
  size = λ v c. length (form_of (unit_of v c));
}

-- what a router's caller has in payloads
abbrev pub PayloadHost : Type 0
PayloadHost = Host (List Change) (List Payload)

-- what is shown is the edition that the cache had under the router's session and serial number, as
-- the router's version has it
pub record ShowsEdition (w : World (List Payload) Change) : Type 0 where
  pub edition : PayloadEdition
  pub was : WasHad w.had (edition_of edition)
  pub session : edition.name.session ≡ w.router.known.session
  pub serial : edition.name.serial ≡ w.router.known.serial
  pub shown : w.host.shown ≡ Some (data_for w.router.known.version edition.payloads)

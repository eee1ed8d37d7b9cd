-- What is shown are data that the store served.
use Rattle.std.proofs.Common.{◌≡◌, ◌++◌, ℕ, true, List, take, sym, ◌∙◌, subst}
use Rattle.rtr_payload.specs.Payloads.{Payload}
use Rattle.rtr_units.specs.End.{EndMeaning}
use Rattle.data_memory.specs.Deltas.{data_for}
use Rattle.data_slices.specs.Canonical.{HoldsData}
use Rattle.data_history.specs.Snapshots.{Snapshot}
use Rattle.session_router.specs.declared.head.Known.{Known}
use Rattle.session_router.specs.Rules.{known_of}
use Rattle.session_cache.specs.Worlds.{IsIn}
use Rattle.session_bytes.specs.Heads.{end_head}
use Rattle.session_laws.specs.Editions.{PayloadEdition}
use Rattle.session_laws.specs.Pipes.{Joined, ShowsBytes}
use Rattle.session_client_laws.specs.Runs.{Pair, ShowsHad}
use Rattle.session_store_laws.specs.ServedData.{AreServed, HasServed, IsEditionOf, StayOnCircles}
use Rattle.session_store_laws.specs.ShownOfStore.{BytesShowServed, ClientShowsServed, HoldsServed}
use Rattle.session_store_laws.proofs.OneName.{SavedNames, UnsavedNames, of_edition, one_snapshot}

module _ (saved : SavedNames) (unsaved : UnsavedNames) (served before : List Snapshot)
    (has : HasServed (served ++ before)) (on : StayOnCircles served) where
  holds_served : (known : Known) (b : List ℕ) (had : List PayloadEdition) (e : PayloadEdition)
      (end : EndMeaning) → AreServed served had → IsIn had e → e.name.has ≡ true
      → e.name.session ≡ known.session → e.name.serial ≡ known.serial
      → HoldsData b (data_for known.version e.payloads) end → known_of (end_head end 0) ≡ known
      → HoldsServed served known b
  holds_served known b had e end are i with_data session serial holds named =
      let s : (x : Snapshot) × IsIn served x × IsEditionOf x e =
      of_edition served had e are i with_data in
      let own_session : s.0.end.session ≡ known.session = sym s.2.session ∙ session in
      let own_serial : s.0.end.serial ≡ known.serial = sym s.2.serial ∙ serial in
      record {
        snapshot = s.0;
        was = s.1;
        session = own_session;
        serial = own_serial;
        only = λ y j is at.
            one_snapshot saved unsaved served before has on y s.0 j s.1 (is ∙ sym own_session)
            (at ∙ sym own_serial);
        end = end;
        holds = subst (λ (d : List Payload). HoldsData b (data_for known.version d) end)
            s.2.payloads holds;
        named = named;
      }

  pub client_shows : (p : Pair) → AreServed served p.had → ShowsHad p
      → ClientShowsServed served p
  client_shows p are x = (
    x.size,
    x.shown,
    holds_served p.client.router.known (take x.size p.held) p.had x.edition x.end are x.was x.has
        x.session x.serial x.holds x.named,
  )

  pub bytes_show : (w : Joined) → AreServed served w.had → ShowsBytes w
      → BytesShowServed served w
  bytes_show w are x = (
    x.bytes,
    x.shown,
    holds_served w.router.known x.bytes w.had x.edition x.end are x.was x.has x.session x.serial
        x.holds x.named,
  )

-- What data and changes of one session are answered with.
use Rattle.std.proofs.Common.{◌≡◌, ℕ, ◌+◌, List, Option, Some, None, subst}
use Rattle.rtr_base.specs.declared.action.Action.TheVariants.{Announce}
use Rattle.rtr_units.specs.End.{EndMeaning}
use Rattle.rtr_payload.specs.Payloads.{Payload}
use Rattle.data_memory.specs.declared.change_error.ChangeError.TheVariants as refusals
use Rattle.data_slices.specs.Apply.{OfOneSession, RefusedAt, WritesApplied}
use Rattle.data_slices.specs.Canonical.{HoldsData}
use Rattle.data_slices.specs.PrivateChanges.{FindsRefused, HoldsParts, HoldsUnits, PlacesAll}
use Rattle.data_slices.specs.declared.refused.Rule.TheVariants.{Duplicate, Unknown}
use Rattle.data_slices.proofs.Allowed.{allowed, duplicate, unknown}
use Rattle.data_slices.proofs.Making.{both}
use Rattle.data_slices.proofs.Parting.{of_parts}
use Rattle.data_slices.proofs.AppliedParts.{announcing, duplicates, unknowns, withdrawing}
use Rattle.data_slices.proofs.Units.{of_data}

module _ (old changes : List ℕ) (middle stop : ℕ) (d : List Payload) (e e' : EndMeaning)
    (h : HoldsData old d e) (p : HoldsParts changes middle stop e')
    (version : e.version ≡ e'.version)
    (session : e.session ≡ e'.session) where
  held : HoldsUnits Announce e'.version old d
  held = subst (λ v. HoldsUnits Announce v old d) version (of_data old d e h)

  pub duplicate_at : (at : ℕ) → FindsRefused (Some at) Duplicate (announcing changes middle) old →
      OfOneSession old changes
      (λ x cs end. RefusedAt at refusals.Duplicate changes x cs end.version)
  duplicate_at at f = (
    d,
    e,
    both p.announced p.withdrawn,
    e',
    h,
    of_parts changes middle stop e' p,
    (
      version,
      session,
      duplicate changes middle stop e' p d at
          (duplicates changes middle stop e' p (Some at) old d held f),
    ),
  )

  module _ (f : FindsRefused None Duplicate (announcing changes middle) old) where
    pub unknown_at : (at : ℕ) →
        FindsRefused (Some at) Unknown (withdrawing changes middle stop) old →
        OfOneSession old changes
        (λ x cs end. RefusedAt (middle + at) refusals.Unknown changes x cs end.version)
    unknown_at at g = (
      d,
      e,
      both p.announced p.withdrawn,
      e',
      h,
      of_parts changes middle stop e' p,
      (
        version,
        session,
        unknown changes middle stop e' p d at
            (duplicates changes middle stop e' p None old d held f)
            (unknowns changes middle stop e' p (Some at) old d held g),
      ),
    )

    pub applied : FindsRefused None Unknown (withdrawing changes middle stop) old →
        (result : Option ℕ) (before now : List ℕ) →
        PlacesAll result old changes middle stop e' before now →
        WritesApplied result old changes before now
    applied g result before now places =
        let m = allowed d p.announced p.withdrawn p.announced_in_order p.withdrawn_in_order
        p.apart (duplicates changes middle stop e' p None old d held f)
        (unknowns changes middle stop e' p None old d held g) in (
          d,
          e,
          both p.announced p.withdrawn,
          e',
          h,
          of_parts changes middle stop e' p,
          (version, session, (m.made, m.is, places d m.made held p m.is)),
        )

-- What the definitions say of single examples, by computation.
use Rattle.std.proofs.Common.{◌≡◌, ℕ, List, [], ◌∷◌, Some, None, true, false, refl}
use Rattle.data_validation.specs.declared.validity.Validity.TheVariants.{NotFound, Valid, Invalid}
use Rattle.validate_work.specs.RouteOrigins.{is_left, stands_before, with_origin}
use Rattle.validate_work.specs.RouteStates.{no_states, no_turns, with_turn}
use Rattle.validate_work.specs.Turned.{is_reported}
use Rattle.validate_work.specs.declared.origins.OriginRow.{OriginRow}
use Rattle.validate_work.specs.declared.states.States.{States}

-- three routes of two ASes, and one without a single origin AS
pub counted_by_as :
    with_origin Valid None (with_origin Invalid (Some 64496) (with_origin Valid (Some 64497)
    (with_origin Invalid (Some 64496) [])))
    ≡ (64496, record { valid = 0; invalid = 2; not_found = 0 })
    ∷ (64497, record { valid = 1; invalid = 0; not_found = 0 }) ∷ []
counted_by_as = refl

-- more invalid routes come first, and of as many the smaller AS
pub row : (asn invalid : ℕ) → OriginRow
row asn invalid =
    record { asn = asn; states = record { valid = 5; invalid = invalid; not_found = 1 } }

pub more_invalid_first : stands_before (row 64511 3) (row 64496 2) ≡ true
unfolding row
more_invalid_first = refl

pub smaller_as_first : stands_before (row 64496 2) (row 64497 2) ≡ true
unfolding row
smaller_as_first = refl

pub not_listed_twice : is_left (Some (row 64496 2)) (row 64496 2) ≡ false
unfolding row
not_listed_twice = refl

-- a route that becomes invalid is counted, and told of; one that is no longer found isn't told of
pub becomes_invalid :
    with_turn Valid Invalid no_turns
    ≡ record no_turns { valid = record no_states { invalid = 1 } }
becomes_invalid = refl

pub invalid_is_told : is_reported Valid Invalid ≡ true
invalid_is_told = refl

pub lost_is_not_told : is_reported Valid NotFound ≡ false
lost_is_not_told = refl

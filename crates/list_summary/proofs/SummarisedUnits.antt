-- Units that are read and counted one after the other, and how reading them ends.
use Rattle.std.proofs.Common.{◌≡◌, ℕ, ◌+◌, ◌-◌, ◌^◌, ◌<◌, min, List, [], ◌∷◌, length, Option}
use Rattle.std.proofs.Common.{Ok, Err, refl, ap, subst, ◌∙◌, arith}
use Rattle.std.proofs.lemmas.List.{length-append}
use Rattle.std.specs.Io.KnownBytes.{Consumes}
use Rattle.std.proofs.KnownBytes.{Consumes-trans}
use Rattle.rtr_units.specs.declared.fault.Fault.{Fault}
use Rattle.rtr_units.specs.StopCauses.{Cause, by_reader, by_writer, too_many, no_memory, wrong}
use Rattle.rtr_units.specs.StopCauses.{cause_of, ReaderState, reader_count}
use Rattle.rtr_units.specs.Reading.{Takes}
use Rattle.unit_any.specs.AnyFields.{AnyFields, HasAnyFields, any_list}
use Rattle.unit_any.specs.AnyReading.{HasEnded, StopsInAny}
use Rattle.list_lines.specs.Listing.{AreAnyUnits, units_bytes}
use Rattle.list_summary.specs.PrivateTallies.{AnswersMore, CountsAs, ReadsAndSums, Sums}
use Rattle.list_summary.specs.PrivateTallies.{raised}
use Rattle.list_summary.specs.Summaries.{announced_as, announced_length, announced_type}
use Rattle.list_summary.specs.Summaries.{other_type}
use Rattle.list_summary.specs.SummaryStatus.{UnitsEnd}
use Rattle.list_summary.specs.declared.summary.Summary.{Summary}
use Rattle.list_summary.proofs.Tallies.{counted_more, tallied_more}

-- n units were read and counted
pub record SoFar (n : ℕ) (s : Summary) (old new : Option (List ℕ)) : Type 0 where
  pub units : List AnyFields
  pub are_units : AreAnyUnits units
  pub counted : length units ≡ n
  pub took : Consumes old new (units_bytes units)
  pub sums : Sums s units

-- ---- one unit more

-- what counting a unit of these bytes leaves
pub record Counts (s : Summary) (f : AnyFields) (whole : List ℕ) (t : Summary) : Type 0 where
  pub bytes : t.bytes ≡ min (s.bytes + length whole) (2 ^ 64 - 1)
  pub units : t.units ≡ min (s.units + 1) (2 ^ 64 - 1)
  pub announced : t.announced.counts ≡ raised s.announced.counts (announced_type f)
  pub others : t.others.counts ≡ raised s.others.counts (other_type f)
  pub v4_lengths : t.v4_lengths.counts ≡ raised s.v4_lengths.counts (announced_length 4 f)
  pub v6_lengths : t.v6_lengths.counts ≡ raised s.v6_lengths.counts (announced_length 6 f)
  pub ases : CountsAs (announced_as f) s.ases t.ases
  pub answers : AnswersMore f s.answers t.answers

sums_more : (s t : Summary) (f : AnyFields) (bytes : List ℕ) (units : List AnyFields) →
    bytes ≡ any_list f → length units < 2 ^ 64 - 1 → Sums s units → Counts s f bytes t →
    Sums t (f ∷ units)
sums_more s t f bytes units is room h more = record {
  bytes = omega (
    arith,
    more.bytes,
    h.bytes,
    ap length is,
    length-append (units_bytes units) (any_list f),
  );
  count = omega (arith, more.units, h.count);
  announced =
      tallied_more announced_type _ _ units f (announced_type f) refl more.announced room
      h.announced;
  others = tallied_more other_type _ _ units f (other_type f) refl more.others room h.others;
  v4_lengths =
      tallied_more (announced_length 4) _ _ units f (announced_length 4 f) refl more.v4_lengths
      room h.v4_lengths;
  v6_lengths =
      tallied_more (announced_length 6) _ _ units f (announced_length 6 f) refl more.v6_lengths
      room h.v6_lengths;
  ases = counted_more units f (announced_as f) s.ases t.ases refl more.ases room h.ases;
  answers = more.answers units room h.answers;
}

pub goes_on : (n : ℕ) (s t : Summary) (f : AnyFields) (bytes : List ℕ) (a b c : Option (List ℕ)) →
    SoFar n s a b → n < 2 ^ 64 - 1 → Consumes b c bytes → HasAnyFields bytes f →
    Counts s f bytes t → SoFar (n + 1) t a c
goes_on n s t f bytes a b c p room took is more =
    let below : length p.units < 2 ^ 64 - 1 = omega (arith, p.counted) in
    record {
      units = f ∷ p.units;
      are_units = (subst (λ l. HasAnyFields l f) is.bytes is, p.are_units);
      counted = omega (arith, p.counted);
      took = Consumes-trans a b c (units_bytes p.units) (any_list f) p.took
          (subst (Consumes b c) is.bytes took);
      sums = sums_more s t f bytes p.units is.bytes below p.sums more;
    }

-- ---- how reading ends

pub ends : (n : ℕ) (s : Summary) (old new : ReaderState) (b : Option (List ℕ)) →
    SoFar n s old.left b → HasEnded b new.left → new.failed ≡ old.failed →
    ReadsAndSums (Ok tt) s old new
ends n s old new b p ended well = (
  p.units,
  record {
    rest = [];
    are_units = p.are_units;
    takes = Consumes-trans old.left b new.left (units_bytes p.units) [] p.took ended.0;
    ends = (refl, ended.1);
    reader_failures = well;
  },
  p.sums,
)

units_end : (c : Cause) (units : List AnyFields) (t : List ℕ) (left : Option (List ℕ)) →
    StopsInAny c t left → UnitsEnd (Err c) units t left
units_end by_reader units t left stops = stops
units_end by_writer units t left stops = stops
units_end too_many units t left stops = absurd stops
units_end no_memory units t left stops = stops
units_end (wrong f) units t left stops = stops

pub stops : (n : ℕ) (s : Summary) (e : Fault) (old new : ReaderState) (b : Option (List ℕ))
    (k : ℕ) → SoFar n s old.left b → Takes b new.left (λ t. StopsInAny (cause_of e) t new.left) →
    k ≡ old.failed → new.failed ≡ reader_count {T = ℕ} (Err (cause_of e)) k →
    ReadsAndSums (Err e) s old new
stops n s e old new b k p (t, took, stopped) same well = (
  p.units,
  record {
    rest = t;
    are_units = p.are_units;
    takes = Consumes-trans old.left b new.left (units_bytes p.units) t p.took took;
    ends = units_end (cause_of e) p.units t new.left stopped;
    reader_failures = well ∙ ap (reader_count {T = ℕ} (Err (cause_of e))) same;
  },
  p.sums,
)

-- Kinds of units, and how calls that read parts of a unit make up a call that reads it.
use Rattle.std.proofs.Common.{◌≡◌, ℕ, ◌+◌, ◌<◌, ◌≤◌, ltb, eqb, cond, List, [], ◌++◌, length, Option}
use Rattle.std.proofs.Common.{Some, None, Result, Ok, Err, refl}
use Rattle.std.proofs.Common.{sym, ap, subst, ◌∙◌, arith, append-nil}
use Rattle.std.proofs.lemmas.Bool.{cond-false, cond-true, eq-eqb, ne_eqb, lt-ltb}
use Rattle.std.proofs.lemmas.Bool.Decides.{nat_tests}
use Rattle.std.proofs.lemmas.List.{length-append}
use Rattle.std.specs.Io.KnownBytes.{Consumes}
use Rattle.std.proofs.KnownBytes.{Consumes-trans}
use Rattle.rtr_base.proofs.Numbers.{IsBytes-append}
use Rattle.rtr_base.specs.Bytes.{IsBytes}
use Rattle.rtr_units.specs.StopCauses.{Refusal, short, unit_type, unit_version}
use Rattle.rtr_units.specs.StopCauses.{too_long, unit_length, empty_providers, refused}
use Rattle.rtr_units.specs.StopCauses.{Cause, by_reader, by_writer}
use Rattle.rtr_units.specs.StopCauses.{too_many, no_memory, wrong, cause_of}
use Rattle.rtr_units.specs.declared.fault.Fault.{Fault}
use Rattle.std.specs.Prelude.{IsTrue}
use Rattle.rtr_units.specs.AnyEnd.{end_unit}
use Rattle.rtr_units.specs.Header.{version_field, type_field, length_field}
use Rattle.rtr_units.specs.Reading.{Kind, of_size, of_type, any_unit, IsWhole, IsPart, Stops}
use Rattle.rtr_units.specs.Reading.{FillsPiece, Reads, ReadsAfter, ReadsBytes, by_bytes}
use Rattle.rtr_units.specs.Stream.{FallsShort}
use Rattle.rtr_units.specs.StopCauses.{ReaderState, reader_count}
use Rattle.rtr_units.proofs.Headers.{same_header}

-- ---- kinds

pub sized_is : (n : ℕ) (u : List ℕ) → length_field u ≡ n → (of_size n).fault u ≡ None
sized_is n u e =
    cond-true (eqb (length_field u) n) None (Some unit_length) (eq-eqb (length_field u) n e)

pub sized_from : (n : ℕ) (u : List ℕ) → (of_size n).fault u ≡ None → length_field u ≡ n
sized_from n u e = grind (arith, nat_tests)

pub typed_is : (p : ℕ) (kind : Kind) (u : List ℕ) → type_field u ≡ p →
    (of_type p kind).fault u ≡ kind.fault u
typed_is p kind u e =
    cond-true (eqb (type_field u) p) (kind.fault u) (Some (unit_type (type_field u)))
    (eq-eqb (type_field u) p e)

pub typed_not : (p : ℕ) (kind : Kind) (u : List ℕ) → ¬ (type_field u ≡ p) →
    (of_type p kind).fault u ≡ Some (unit_type (type_field u))
typed_not p kind u e =
    cond-false (eqb (type_field u) p) (kind.fault u) (Some (unit_type (type_field u)))
    (ne_eqb (type_field u) p e)

pub end_version : (u : List ℕ) → 2 < version_field u →
    end_unit.fault u ≡ Some (unit_version (version_field u))
end_version u e =
    cond-true (ltb 2 (version_field u)) (Some (unit_version (version_field u))) _
    (lt-ltb 2 (version_field u) e)

pub any_is : (u : List ℕ) → 8 ≤ length_field u → length_field u ≤ 65535 → any_unit.fault u ≡ None
any_is u low high = grind (arith, nat_tests)

pub any_long : (u : List ℕ) → 65535 < length_field u → any_unit.fault u ≡ Some too_long
any_long u e = grind (arith, nat_tests)

pub any_low : (u : List ℕ) → length_field u < 8 → any_unit.fault u ≡ Some unit_length
any_low u e = grind (arith, nat_tests)

-- what is wrong with a header doesn't change by what follows it
pub record ByHeader (kind : Kind) : Type 0 where
  pub fault : (h t : List ℕ) → 8 ≤ length h → kind.fault (h ++ t) ≡ kind.fault h

pub sized_by : (n : ℕ) → ByHeader (of_size n)
sized_by n = record {
  fault = λ h t l. ap (λ m. cond (eqb m n) None (Some unit_length)) (same_header h t l).size;
}

pub any_by : ByHeader any_unit
any_by = record {
  fault = λ h t l.
      ap (λ n. cond (ltb 65535 n) (Some too_long) (cond (ltb n 8) (Some unit_length) None))
      (same_header h t l).size;
}

-- ---- pieces

-- a piece of m bytes fell short, and so did what it is the rest of
pub short_more : (m n : ℕ) (cause : Cause) (front t : List ℕ) (left : Option (List ℕ)) →
    (length t < m → length (front ++ t) < n) → FallsShort m cause t left →
    FallsShort n cause (front ++ t) left
short_more m n by_reader front t left more s = more s
short_more m n by_writer front t left more s = s
short_more m n too_many front t left more s = s
short_more m n no_memory front t left more s = s
short_more m n (wrong short) front t left more s = (more s.0, s.1)
short_more m n (wrong (unit_type x)) front t left more s = s
short_more m n (wrong (unit_version x)) front t left more s = s
short_more m n (wrong too_long) front t left more s = s
short_more m n (wrong unit_length) front t left more s = s
short_more m n (wrong empty_providers) front t left more s = s
short_more m n (wrong (refused x)) front t left more s = s

-- no whole header came
pub header_stops : (kind : Kind) (cause : Cause) (t : List ℕ) (left : Option (List ℕ)) →
    FallsShort 8 cause t left → Stops kind cause t left
header_stops kind by_reader t left s = λ l. absurd (omega (arith, s))
header_stops kind by_writer t left s = s
header_stops kind too_many t left s = s
header_stops kind no_memory t left s = absurd s
header_stops kind (wrong short) t left s = (λ l. absurd (omega (arith, s.0)), s.1)
header_stops kind (wrong (unit_type x)) t left s = absurd s
header_stops kind (wrong (unit_version x)) t left s = absurd s
header_stops kind (wrong too_long) t left s = absurd s
header_stops kind (wrong unit_length) t left s = absurd s
header_stops kind (wrong empty_providers) t left s = absurd s
header_stops kind (wrong (refused x)) t left s = absurd s

-- a header h in order was there, and less came of the n bytes that follow it
module _ (kind : Kind) (by : ByHeader kind) (n : ℕ) (h : List ℕ) (eight : length h ≡ 8)
    (order : kind.fault h ≡ None) (size : length_field h ≡ 8 + n) where
  pub part : (t : List ℕ) → length t < n → IsPart kind (h ++ t)
  part t less = λ l. (
    by.fault h t (omega (arith, eight)) ∙ order,
    omega
        (arith, (same_header h t (omega (arith, eight))).size, length-append h t, eight, size),
  )

  pub rest_stops : (cause : Cause) (t : List ℕ) (left : Option (List ℕ)) →
      FallsShort n cause t left → Stops kind cause (h ++ t) left
  rest_stops by_reader t left s = part t s
  rest_stops by_writer t left s = s
  rest_stops too_many t left s = s
  rest_stops no_memory t left s = absurd s
  rest_stops (wrong short) t left s = (part t s.0, s.1)
  rest_stops (wrong (unit_type x)) t left s = absurd s
  rest_stops (wrong (unit_version x)) t left s = absurd s
  rest_stops (wrong too_long) t left s = absurd s
  rest_stops (wrong unit_length) t left s = absurd s
  rest_stops (wrong empty_providers) t left s = absurd s
  rest_stops (wrong (refused x)) t left s = absurd s

  -- all came
  pub rest_whole : (t : List ℕ) → IsBytes (h ++ t) → length t ≡ n → IsWhole kind (h ++ t)
  rest_whole t range all = record {
    header = omega (arith, length-append h t, eight);
    in_order = by.fault h t (omega (arith, eight)) ∙ order;
    size =
        omega
        (arith, length-append h t, (same_header h t (omega (arith, eight))).size, eight, size, all);
    are_bytes = range;
  }

-- nothing was read after a header
pub at_header : (kind : Kind) (f : Refusal) (h : List ℕ) → length h ≡ 8 → kind.fault h ≡ Some f →
    (length (h ++ []) ≡ 8) × (kind.fault (h ++ []) ≡ Some f)
at_header kind f h l e = (ap length (append-nil h) ∙ l, ap kind.fault (append-nil h) ∙ e)

-- ---- a header and then its rest

-- the header h was taken, and the rest was read or was not
pub read_on : (kind : Kind) (h : List ℕ) (r : Result (List ℕ) Cause) (a b c : Option (List ℕ)) →
    Consumes a b h → ReadsBytes kind h r b c → ReadsBytes kind [] r a c
read_on kind h (Ok u) a b c took ((t, taken, is), whole) =
    ((u, subst (Consumes a c) (sym is) (Consumes-trans a b c h t took taken), refl), whole)
read_on kind h (Err cause) a b c took (t, taken, stops) =
    (h ++ t, Consumes-trans a b c h t took taken, stops)

-- where two kinds say the same of u, and memory that is asked for by one is by the other, u is read
-- alike
module _ (kind other : Kind) (u : List ℕ) (same : kind.fault u ≡ other.fault u)
    (asks : IsTrue (kind.asks u) → IsTrue (other.asks u)) where
  alike_order : (o : Option Refusal) → kind.fault u ≡ o → other.fault u ≡ o
  alike_order o e = sym same ∙ e

  alike_part : IsPart kind u → IsPart other u
  alike_part is l = (alike_order None (is l).0, (is l).1)

  pub alike_stops : (cause : Cause) (left : Option (List ℕ)) → Stops kind cause u left →
      Stops other cause u left
  alike_stops by_reader left s = alike_part s
  alike_stops by_writer left s = s
  alike_stops too_many left s = s
  alike_stops no_memory left s = record {
    header = s.header;
    asks = asks s.asks;
    in_order = alike_order None s.in_order;
    place = s.place;
  }
  alike_stops (wrong short) left s = (alike_part s.0, s.1)
  alike_stops (wrong (unit_type x)) left s = (s.0, alike_order _ s.1)
  alike_stops (wrong (unit_version x)) left s = (s.0, alike_order _ s.1)
  alike_stops (wrong too_long) left s = (s.0, alike_order _ s.1)
  alike_stops (wrong unit_length) left s = (s.0, alike_order _ s.1)
  alike_stops (wrong empty_providers) left s = (s.0, alike_order _ s.1)
  alike_stops (wrong (refused x)) left s = (s.0, alike_order _ s.1)

  pub alike_whole : IsWhole kind u → IsWhole other u
  alike_whole w = record {
    header = w.header;
    in_order = alike_order None w.in_order;
    size = w.size;
    are_bytes = w.are_bytes;
  }

-- the same of all that begins with the header h
pub record AlikeAfter (kind other : Kind) (h : List ℕ) : Type 0 where
  pub fault : (t : List ℕ) → kind.fault (h ++ t) ≡ other.fault (h ++ t)
  pub asks : (t : List ℕ) → IsTrue (kind.asks (h ++ t)) → IsTrue (other.asks (h ++ t))

pub read_alike : (kind other : Kind) (h : List ℕ) (r : Result (List ℕ) Cause)
    (a b : Option (List ℕ)) → AlikeAfter kind other h → ReadsBytes kind h r a b →
    ReadsBytes other h r a b
read_alike kind other h (Ok u) a b alike ((t, took, is), whole) = (
  (t, took, is),
  subst (IsWhole other) (sym is)
      (alike_whole kind other (h ++ t) (alike.fault t) (alike.asks t)
      (subst (IsWhole kind) is whole)),
)
read_alike kind other h (Err cause) a b alike (t, took, stops) =
    (t, took, alike_stops kind other (h ++ t) (alike.fault t) (alike.asks t) cause b stops)

pub alike_typed : (p : ℕ) (kind : Kind) (h : List ℕ) → 8 ≤ length h → type_field h ≡ p →
    AlikeAfter kind (of_type p kind) h
alike_typed p kind h l is_type = record {
  fault = λ t. sym (typed_is p kind (h ++ t) ((same_header h t l).kind ∙ is_type));
  asks = λ t asks. asks;
}

-- the same by the state of the reader
pub reads_on : (kind : Kind) (h : List ℕ) (r : Result (List ℕ) Cause) (a b c : ReaderState) →
    FillsPiece 8 (Ok h) a b → Reads kind h r b c → Reads kind [] r a c
reads_on kind h r a b c ((took, is), same) (reads, counts) =
    (read_on kind h r _ _ _ took reads, counts ∙ ap (reader_count r) same)

pub reads_alike : (kind other : Kind) (h : List ℕ) (r : Result (List ℕ) Cause) (a b : ReaderState) →
    AlikeAfter kind other h → Reads kind h r a b → Reads other h r a b
reads_alike kind other h r a b alike (reads, counts) =
    (read_alike kind other h r _ _ alike reads, counts)

-- a header of type p was taken, and then the rest was read or was not
pub read_both : (p : ℕ) (kind : Kind) (h : List ℕ) (r : Result (List ℕ) Cause)
    (a b c : ReaderState) → type_field h ≡ p → FillsPiece 8 (Ok h) a b → ReadsAfter kind h r b c →
    Reads (of_type p kind) [] r a c
read_both p kind h r a b c is_type ((took, is), same) (eight, reads) =
    reads_on (of_type p kind) h r a b c ((took, is), same)
    (reads_alike kind (of_type p kind) h r b c
    (alike_typed p kind h (omega (arith, is.0)) is_type) reads)

-- a header h in order was there, and of what follows it this piece was filled or was not
module _ (kind : Kind) (by : ByHeader kind) (n : ℕ) (h : List ℕ) (eight : length h ≡ 8)
    (order : kind.fault h ≡ None) (size : length_field h ≡ 8 + n) where
  pub rest_read : {T : Type 0} (r : Result T Fault) (u piece : List ℕ) (a b : ReaderState) →
      IsBytes (h ++ piece) → length piece ≡ n → u ≡ h ++ piece →
      FillsPiece (length piece) (by_bytes (λ x. piece) r) a b →
      Reads kind h (by_bytes (λ x. u) r) a b
  rest_read (Ok x) u piece a b range all is ((took, _), counts) = (
    (
      (piece, took, is),
      subst (IsWhole kind) (sym is)
          (rest_whole kind by n h eight order size piece range all),
    ),
    counts,
  )
  rest_read (Err e) u piece a b range all is ((t, took, less), counts) = (
    (
      t,
      took,
      rest_stops kind by n h eight order size (cause_of e) t b.left
          (subst (λ m. FallsShort m (cause_of e) t b.left) all less),
    ),
    counts,
  )

  -- the same of a piece that isn't kept
  pub rest_passed : {T : Type 0} (r : Result T Fault) (piece : List ℕ) (a b : ReaderState) →
      IsBytes h → FillsPiece n (by_bytes (λ x. piece) r) a b →
      (u : List ℕ) × Reads kind h (by_bytes (λ x. u) r) a b
  rest_passed (Ok x) piece a b is ((took, (all, range)), counts) = (
    h ++ piece,
    (
      (
        (piece, took, refl),
        rest_whole kind by n h eight order size piece
            (IsBytes-append h piece is range) all,
      ),
      counts,
    ),
  )
  rest_passed (Err e) piece a b is ((t, took, less), counts) =
      ([], ((t, took, rest_stops kind by n h eight order size (cause_of e) t b.left less), counts))

-- Units that were read after their header have the fields that stand at their places.
use Rattle.std.proofs.Common.{◌≡◌, ℕ, ◌+◌, ◌<◌, List, [], ◌++◌, length, drop, Option, Some, None}
use Rattle.std.proofs.Common.{Ok, refl, sym, ap, subst, ◌∙◌, arith, inl, inr, length-drop}
use Rattle.rtr_base.specs.declared.timing.Timing.{Timing}
use Rattle.rtr_base.specs.Bytes.{be, IsBytes}
use Rattle.rtr_base.proofs.Cuts.{cut_number, cut_end, number_fits}
use Rattle.rtr_base.proofs.Numbers.{IsBytes-append, IsBytes-be}
use Rattle.rtr_units.specs.End.{EndMeaning, IsEnd, HasTimingOf, timed_list}
use Rattle.rtr_units.specs.AnyEnd.{end_bytes, end_meaning}
use Rattle.rtr_units.specs.declared.end.EndOfData.{EndOfData}
use Rattle.rtr_units.specs.Queries.{bare_list, serial_list, serial_field}
use Rattle.rtr_units.specs.Header.{header, version_field, type_field, session_field, length_field}
use Rattle.rtr_units.specs.Reading.{Kind, of_size, Takes, ReadsAfter}
use Rattle.rtr_units.specs.StopCauses.{ReaderState}
use Rattle.rtr_units.proofs.UnitsRead.{sized_from}
use Rattle.rtr_units.specs.HeaderBytes.{AreBytes}
use Rattle.rtr_units.proofs.Headers.{header_read, header_bytes, same_header, session_fits}
use Rattle.rtr_payload.specs.UnitKinds.{payload_unit}
use Rattle.rtr_payload.specs.UnitFields.{Fields, HasFields}
use Rattle.unit_any.specs.AnyFields.{AnyFields, serial_notify, serial_query, reset_query}
use Rattle.unit_any.specs.AnyFields.{cache_response, payload, end_of_data, cache_reset}
use Rattle.unit_any.specs.AnyFields.{error_report, HasAnyFields}
use Rattle.unit_any.specs.Reports.{IsReport}
use Rattle.unit_any.specs.AnyUnits.{serial_of, bare_of}
use Rattle.unit_any.proofs.Reports.{report_fields}

-- ---- units of a fixed size

-- a unit of n bytes and type k
pub record Sized (n k : ℕ) (u : List ℕ) : Type 0 where
  pub bytes : AreBytes n u
  pub kind : type_field u ≡ k
  pub size : length_field u ≡ n

rest_sized : (n k : ℕ) (h u : List ℕ) (old new : ReaderState) → type_field h ≡ k →
    ReadsAfter (of_size n) h (Ok u) old new → Sized n k u
rest_sized n k h u old new kind (is, (((t, took, parts), whole), counts)) =
    let same = same_header h t (omega (arith, is.0)) in
    let size : length_field u ≡ n = sized_from n u whole.in_order in
    record {
      bytes = (whole.size ∙ size, whole.are_bytes);
      kind = ap type_field parts ∙ same.kind ∙ kind;
      size = size;
    }

-- what was taken is the rest of the unit
taken_rest : (kind : Kind) (h u : List ℕ) (old new : ReaderState) →
    ReadsAfter kind h (Ok u) old new → Takes old.left new.left (λ t. u ≡ h ++ t)
taken_rest kind h u old new (is, ((takes, whole), counts)) = takes

serial_is : (k : ℕ) (u : List ℕ) → Sized 12 k u →
    u ≡ serial_list (version_field u) k (session_field u) (serial_field u)
serial_is k u s =
    let l = s.bytes.0 in
    let h = s.bytes.1 in
    header_read u _ h (omega arith) (cut_number u [] 8 4 h (omega arith) (cut_end u 12 l))
    ∙ (λ i.
    header (version_field u) (s.kind i) (session_field u) (s.size i) ++ be (serial_field u) 4)

bare_is : (k : ℕ) (u : List ℕ) → Sized 8 k u → u ≡ bare_list (version_field u) k (session_field u)
bare_is k u s =
    let l = s.bytes.0 in
    let h = s.bytes.1 in
    header_read u [] h (omega arith) (cut_end u 8 l)
    ∙ (λ i. header (version_field u) (s.kind i) (session_field u) (s.size i))

module _ (h u : List ℕ) (old new : ReaderState) where
  module _ (k : ℕ) (kind : type_field h ≡ k) where
    pub serial_reads : (f : ℕ → ℕ → ℕ → AnyFields) → ReadsAfter (of_size 12) h (Ok u) old new →
        (Sized 12 k u → HasAnyFields u (serial_of f u)) →
        (Takes old.left new.left (λ t. u ≡ h ++ t) × HasAnyFields u (serial_of f u))
        × (new.failed ≡ old.failed)
    serial_reads f r has =
        ((taken_rest (of_size 12) h u old new r, has (rest_sized 12 k h u old new kind r)), r.1.1)

    pub bare_reads : (f : ℕ → ℕ → AnyFields) → ReadsAfter (of_size 8) h (Ok u) old new →
        (Sized 8 k u → HasAnyFields u (bare_of f u)) →
        (Takes old.left new.left (λ t. u ≡ h ++ t) × HasAnyFields u (bare_of f u))
        × (new.failed ≡ old.failed)
    bare_reads f r has =
        ((taken_rest (of_size 8) h u old new r, has (rest_sized 8 k h u old new kind r)), r.1.1)

module _ (u : List ℕ) where
  pub notify_has : Sized 12 0 u → HasAnyFields u (serial_of serial_notify u)
  notify_has s =
      let l = s.bytes.0 in
      record {
        fits = (session_fits u s.bytes.1 (omega arith), number_fits u 8 4 s.bytes.1 (omega arith));
        bytes = serial_is 0 u s;
        are_bytes = s.bytes.1;
      }

  pub query_has : Sized 12 1 u → HasAnyFields u (serial_of serial_query u)
  query_has s =
      let l = s.bytes.0 in
      record {
        fits = (session_fits u s.bytes.1 (omega arith), number_fits u 8 4 s.bytes.1 (omega arith));
        bytes = serial_is 1 u s;
        are_bytes = s.bytes.1;
      }

  pub reset_query_has : Sized 8 2 u → HasAnyFields u (bare_of reset_query u)
  reset_query_has s =
      let l = s.bytes.0 in
      record {
        fits = session_fits u s.bytes.1 (omega arith);
        bytes = bare_is 2 u s;
        are_bytes = s.bytes.1;
      }

  pub response_has : Sized 8 3 u → HasAnyFields u (bare_of cache_response u)
  response_has s =
      let l = s.bytes.0 in
      record {
        fits = session_fits u s.bytes.1 (omega arith);
        bytes = bare_is 3 u s;
        are_bytes = s.bytes.1;
      }

  pub cache_reset_has : Sized 8 8 u → HasAnyFields u (bare_of cache_reset u)
  cache_reset_has s =
      let l = s.bytes.0 in
      record {
        fits = session_fits u s.bytes.1 (omega arith);
        bytes = bare_is 8 u s;
        are_bytes = s.bytes.1;
      }

-- ---- payload units

pub payload_has : (u : List ℕ) (f : Fields) → HasFields u f → HasAnyFields u (payload f)
payload_has u f has =
    record { fits = (has.fits, has.limits); bytes = has.bytes; are_bytes = has.are_bytes }

pub payload_reads : (h u : List ℕ) (old new : ReaderState) (f : Fields) →
    ReadsAfter payload_unit h (Ok u) old new → HasFields u f →
    (Takes old.left new.left (λ t. u ≡ h ++ t) × HasAnyFields u (payload f))
    × (new.failed ≡ old.failed)
payload_reads h u old new f r has =
    ((taken_rest payload_unit h u old new r, payload_has u f has), r.1.1)

-- ---- ends of data

version_small : (v : ℕ) (t : Option Timing) → HasTimingOf v t → v < 256
version_small v None is = omega arith
version_small v (Some t) is = elim is.0 [ inl e ↦ omega arith | inr e ↦ omega arith ]

timed_bytes : (v s q : ℕ) (t : Option Timing) → v < 256 → IsBytes (timed_list v s q t)
timed_bytes v s q None small = header_bytes v 7 s 12 (be q 4) small (omega arith) (IsBytes-be q 4)
timed_bytes v s q (Some t) small =
    let times = IsBytes-append (be q 4 ++ be t.refresh 4 ++ be t.retry 4) (be t.expire 4)
    (IsBytes-append (be q 4 ++ be t.refresh 4) (be t.retry 4)
    (IsBytes-append (be q 4) (be t.refresh 4) (IsBytes-be q 4) (IsBytes-be t.refresh 4))
    (IsBytes-be t.retry 4))
    (IsBytes-be t.expire 4) in
    header_bytes v 7 s 24 (be q 4 ++ be t.refresh 4 ++ be t.retry 4 ++ be t.expire 4) small
    (omega arith) times

pub end_has : (b : List ℕ) (e : EndMeaning) → IsEnd b e → HasAnyFields b (end_of_data e)
end_has b e is =
    let bytes : IsBytes b =
    subst IsBytes (sym is.bytes)
    (timed_bytes e.version e.session e.serial e.timing
    (version_small e.version e.timing is.fits.timing)) in
    record { fits = is.fits; bytes = is.bytes; are_bytes = bytes }

pub end_reads : (h : List ℕ) (e : EndOfData) (old new : ReaderState) →
    ReadsAfter payload_unit h (Ok (end_bytes e)) old new → IsEnd (end_bytes e) (end_meaning e) →
    (Takes old.left new.left (λ t. end_bytes e ≡ h ++ t)
    × HasAnyFields (end_bytes e) (end_of_data (end_meaning e)))
    × (new.failed ≡ old.failed)
end_reads h e old new r end = (
  (taken_rest payload_unit h (end_bytes e) old new r, end_has (end_bytes e) (end_meaning e) end),
  r.1.1,
)

-- ---- error reports

pub report_has : (u : List ℕ) → IsReport u →
    HasAnyFields u (error_report (version_field u) (session_field u) (drop 8 u))
report_has u is =
    let is = report_fields u is in
    let h = is.are_bytes in
    let least = is.least in
    let most = is.most in
    let rest = length-drop 8 u in
    let size : length_field u ≡ 8 + length (drop 8 u) = is.size ∙ omega arith in
    record {
      fits = (session_fits u h (omega arith), omega arith, omega arith);
      bytes =
          header_read u (drop 8 u) h (omega arith) refl
          ∙ (λ i. header (version_field u) (is.kind i) (session_field u) (size i) ++ drop 8 u);
      are_bytes = h;
    }

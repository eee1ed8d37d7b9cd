use Rattle.std.proofs.Common.{◌≡◌, ℕ, ◌-◌, List, ◌++◌, length, take, drop, Option, Result, Ok, Err}
use Rattle.std.proofs.Common.{sym, ap, subst, ◌∙◌, arith}
use Rattle.std.proofs.Math.Seq.{drop-append_seam, take-append_seam}
use Rattle.rtr_base.specs.Bytes.{IsBytes}
use Rattle.rtr_units.specs.declared.fault.Fault.{Fault}
use Rattle.rtr_units.specs.Reading.{FillsPiece, by_bytes}
use Rattle.rtr_units.specs.StopCauses.{Cause, ReaderState, by_reader, by_writer, too_many}
use Rattle.rtr_units.specs.StopCauses.{no_memory, wrong, cause_of}
use Rattle.rtr_units.specs.Stream.{FallsShort}
use Rattle.rtr_payload.specs.PrivateFrames.{ReadsFrame, StopsInFrame}
use Rattle.rtr_payload.proofs.pdu.frame.fill_unit.Goals as goal

-- the bytes of a unit are its header and the rest
the_rest : (h t : List ℕ) → length h ≡ 8 → drop 8 (h ++ t) ≡ t
the_rest h t l = ap (λ (n : ℕ). drop n (h ++ t)) (sym l) ∙ drop-append_seam h t

the_header : (h t : List ℕ) → length h ≡ 8 → take 8 (h ++ t) ≡ h
the_header h t l = ap (λ (n : ℕ). take n (h ++ t)) (sym l) ∙ take-append_seam h t

stops : (n : ℕ) (c : Cause) (t : List ℕ) (left : Option (List ℕ)) → FallsShort n c t left →
    StopsInFrame n c t left
stops n by_reader t left s = s
stops n by_writer t left s = s
stops n too_many t left s = s
stops n no_memory t left s = absurd s
stops n (wrong f) t left s = s

reads : {T : Type 0} (n : ℕ) (r : Result T Fault) (t : List ℕ) (old new : ReaderState) →
    length t ≡ n → FillsPiece (length t) (by_bytes (λ _. t) r) old new →
    ReadsFrame n (by_bytes (λ _. t) r) old new
reads n (Ok x) t old new l ((took, is), counts) = ((took, l), counts)
reads n (Err f) t old new l ((s, took, short), counts) =
    let less = subst (λ m. FallsShort m (cause_of f) s new.left) l short in
    ((s, took, stops n (cause_of f) s new.left less), counts)

pub returns-clause-bytes : goal.returns-clause-bytes
returns-clause-bytes g c =
    let h = c.copy_from_slice.new.self in
    let t = c.fill.new.piece in
    let eight : length h ≡ 8 = omega arith in
    let size : length t ≡ length c.args.unit.now - 8 = omega arith in
    subst
    (λ (l : List ℕ).
    ReadsFrame (length c.args.unit.now - 8) (by_bytes (λ _. l) c.fill.result)
    (g.R.Source.state c.args.reader.now) (g.R.Source.state c.fill.new.reader))
    (sym (the_rest h t eight))
    (reads _ c.fill.result t _ _ size c.fill.ensures.bytes)

pub returns-clause-head : goal.returns-clause-head
returns-clause-head g c =
    the_header c.copy_from_slice.new.self c.fill.new.piece (omega arith)
    ∙ c.copy_from_slice.ensures.after

pub returns-clause-range : goal.returns-clause-range
returns-clause-range g c =
    subst IsBytes (sym (the_rest c.copy_from_slice.new.self c.fill.new.piece (omega arith)))
    c.fill.ensures.range

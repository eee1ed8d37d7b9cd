-- Lines that are written one after the other.
use Rattle.std.proofs.Common.{◌≡◌, ℕ, ◌+◌, ◌<◌, List, [], ◌∷◌, ◌++◌, length, Option}
use Rattle.std.proofs.Common.{Result, Ok, Err, refl, sym, ap, subst, ◌∙◌, append-nil, arith}
use Rattle.std.proofs.Common.{suc, take, drop, get_or, inr, drop-cons}
use Rattle.std.proofs.lemmas.List.{take-append-drop, map-append}
use Rattle.std.proofs.Math.Seq.{take-suc}
use Rattle.std.proofs.lemmas.List.Folds.{concat-append}
use Rattle.std.specs.List.{concat}
use Rattle.std.specs.Io.KnownBytes.{Appends}
use Rattle.std.proofs.KnownBytes.{Appends-trans, Appends-nil}
use Rattle.rtr_units.specs.declared.fault.Fault.{Fault}
use Rattle.rtr_units.specs.declared.fault.Fault.TheVariants.{Memory}
use Rattle.rtr_units.specs.StopCauses.{Cause, by_reader, by_writer, too_many, no_memory, wrong}
use Rattle.rtr_units.specs.StopCauses.{cause_of}
use Rattle.rtr_units.specs.StopCauses.{WriterState}
use Rattle.text_findings.specs.FindingTexts.{finding_of}
use Rattle.list_lines.specs.Lines.{PutsLine, PutsLineBytes, StopsLine, written_line}
use Rattle.list_lines.specs.Listing.{BreaksOff, finding_lines}
use Rattle.list_lines.specs.PrivateLines.{Prints, PrintsBytes}
use Rattle.text_findings.specs.declared.finding.Finding.{Finding}
use Rattle.list_lines.specs.declared.run.Wanted.{Wanted}
use Rattle.list_lines.specs.declared.run.Wanted.TheVariants.{Findings}

pub concat_push : (xs : List (List ℕ)) (x : List ℕ) → concat (xs ++ x ∷ []) ≡ concat xs ++ x
concat_push xs x = concat-append xs (x ∷ []) ∙ ap (λ l. concat xs ++ l) (append-nil x)

-- ---- the line where printing stops

-- the lines before it are whole
pub stops_at : (c : Cause) (whole others : List (List ℕ)) (line part missing : List ℕ) →
    line ≡ part ++ missing → StopsLine c part missing →
    BreaksOff c (whole ++ line ∷ others) (concat whole ++ part)
stops_at by_reader whole others line part missing is stops = absurd stops
stops_at by_writer whole others line part missing is stops = record {
  whole = whole;
  part = part;
  missing = missing;
  others = others;
  lines_are = ap (λ l. whole ++ l ∷ others) is;
  misses = stops;
  written_is = refl;
}
stops_at too_many whole others line part missing is stops = absurd stops
stops_at no_memory whole others line part missing is stops = inr (record {
  whole = whole;
  next = line;
  others = others;
  lines_are = refl;
  written_is = ap (λ l. concat whole ++ l) stops ∙ append-nil (concat whole);
})
stops_at (wrong f) whole others line part missing is stops = absurd stops

-- ---- the line of a listed unit

pub one_broken : (what : Wanted) (text : List ℕ) (e : Fault) (a b : WriterState) →
    PutsLine text (Err e) a b → Prints what (written_line text ∷ []) (Err e) a b
one_broken what text e a b ((part, missing, wrote, is, stops), counts) =
    ((part, wrote, stops_at (cause_of e) [] [] (written_line text) part missing is stops), counts)

-- ---- the lines of broken rules

-- out of memory, nothing of a line is written
no_memory_puts_none : (text : List ℕ) (a : Option (List ℕ)) → PutsLineBytes text (Err Memory) a a
no_memory_puts_none text a = ([], written_line text, Appends-nil a, refl, refl)

pub puts_none : (e : Fault) (text : List ℕ) (a : Option (List ℕ)) → e ≡ Memory →
    PutsLineBytes text (Err e) a a
puts_none e text a is =
    subst (λ f. PutsLineBytes text (Err f) a a) (sym is) (no_memory_puts_none text a)

-- the first lines and one more
pub lines_on : (offset : ℕ) (broken : List Finding) (i : ℕ) (d : Finding) → i < length broken →
    concat (finding_lines offset (take (suc i) broken)) ≡
    concat (finding_lines offset (take i broken))
    ++ written_line (finding_of offset (get_or broken i d))
lines_on offset broken i d below =
    ap (λ l. concat (finding_lines offset l)) (take-suc broken i d below)
    ∙ ap concat (map-append (λ f. written_line (finding_of offset f)) (take i broken)
    (get_or broken i d ∷ []))
    ∙ concat_push (finding_lines offset (take i broken))
    (written_line (finding_of offset (get_or broken i d)))

-- the lines before one, that line, and those after it
pub lines_split : (offset : ℕ) (broken : List Finding) (i : ℕ) (d : Finding) →
    i < length broken → finding_lines offset broken ≡
    finding_lines offset (take i broken)
    ++ written_line (finding_of offset (get_or broken i d))
    ∷ finding_lines offset (drop (suc i) broken)
lines_split offset broken i d below =
    ap (finding_lines offset) (sym (take-append-drop i broken)
    ∙ ap (λ l. take i broken ++ l) (drop-cons broken i d below))
    ∙ map-append (λ f. written_line (finding_of offset f)) (take i broken)
    (get_or broken i d ∷ drop (suc i) broken)

pub same_line : (line text : List ℕ) (r : Result (Unit {0}) Fault) (a b : Option (List ℕ)) →
    line ≡ text → PutsLineBytes line r a b → PutsLineBytes text r a b
same_line line text r a b is put = subst (λ l. PutsLineBytes l r a b) is put

pub goes_on : (x : Unit {0}) (offset : ℕ) (broken : List Finding) (i : ℕ) (d : Finding) →
    (a b c : Option (List ℕ)) → i < length broken →
    Appends a b (concat (finding_lines offset (take i broken))) →
    PutsLineBytes (finding_of offset (get_or broken i d)) (Ok x) b c →
    Appends a c (concat (finding_lines offset (take (i + 1) broken)))
goes_on x offset broken i d a b c below wrote put =
    let next : suc i ≡ i + 1 = omega arith in
    subst (λ n. Appends a c (concat (finding_lines offset (take n broken)))) next
    (subst (Appends a c) (sym (lines_on offset broken i d below))
    (Appends-trans a b c _ _ wrote put))

-- the writer or memory fails at one of them
pub stops_putting : (e : Fault) (offset : ℕ) (broken : List Finding) (i : ℕ) (d : Finding) →
    (a b c : Option (List ℕ)) → i < length broken →
    Appends a b (concat (finding_lines offset (take i broken))) →
    PutsLineBytes (finding_of offset (get_or broken i d)) (Err e) b c →
    PrintsBytes Findings (finding_lines offset broken) (Err e) a c
stops_putting e offset broken i d a b c below wrote (part, missing, put, is, stops) = (
  concat (finding_lines offset (take i broken)) ++ part,
  Appends-trans a b c _ _ wrote put,
  subst (λ l. BreaksOff (cause_of e) l (concat (finding_lines offset (take i broken)) ++ part))
      (sym (lines_split offset broken i d below))
      (stops_at (cause_of e) (finding_lines offset (take i broken))
      (finding_lines offset (drop (suc i) broken)) _ part missing is stops),
)

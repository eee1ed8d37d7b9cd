-- The room that names of payloads and lines of findings want at most.
use Rattle.std.proofs.Common.{ℕ, ◌+◌, ◌<◌, ◌≤◌, ◌^◌, List, ◌++◌, length, arith, Option}
use Rattle.std.proofs.Common.{Some, None}
use Rattle.std.proofs.Common.{Bool, true, false, cond}
use Rattle.std.specs.Prelude.{codes, decimal, ◌==◌, ◌%◌}
use Rattle.std.proofs.lemmas.Fmt.{length-decimal-le}
use Rattle.std.proofs.lemmas.List.{length-append}
use Rattle.rtr_base.specs.Addresses.{Family, v4, v6}
use Rattle.rtr_base.specs.Bytes.{be}
use Rattle.rtr_base.proofs.Numbers.{length-be}
use Rattle.rtr_units.specs.PrefixUnits.{address_bytes}
use Rattle.rtr_payload.specs.Payloads.{Payload, origin}
use Rattle.rtr_payload.specs.RouteOrigins.{meant_origin}
use Rattle.rtr_payload.specs.UnitFields.{Fields, prefix_unit, key_unit, aspa_unit, Fit}
use Rattle.rtr_payload.specs.UnitFields.{WithinLimits}
use Rattle.rtr_payload.specs.declared.pdu.prefix_rule.PrefixRule.{PrefixRule}
use Rattle.unit_any.specs.AnyFields.{AnyFields, AnyFit, HasAnyFields, serial_notify}
use Rattle.unit_any.specs.AnyFields.{serial_query}
use Rattle.unit_any.specs.AnyFields.{reset_query, cache_response, payload, end_of_data}
use Rattle.unit_any.specs.AnyFields.{cache_reset, error_report}
use Rattle.text_findings.specs.FindingTexts.{finding_text, finding_of as finding_line, layout_text}
use Rattle.text_findings.specs.PayloadNames.{option_name, payload_name, unit_name}
use Rattle.text_findings.specs.SequenceSoFar.{origin_under, payload_named}
use Rattle.text_findings.specs.declared.finding.Finding.{Finding}
use Rattle.text_findings.specs.declared.finding.Finding.TheVariants as rules
use Rattle.text_findings.specs.declared.finding.Layout.{Layout}
use Rattle.text_findings.specs.declared.finding.Layout.TheVariants.{AsRead, LikeOlderDraft}
use Rattle.session_times.specs.declared.times.TimeRule.{TimeRule}
use Rattle.session_times.specs.declared.times.TimeRule.TheVariants as times
use Rattle.rtr_c.specs.Checks.{numbered_finding, numbered_layout, numbered_rule, told_line}
use Rattle.rtr_c.specs.Checks.{numbered_time_rule}
use Rattle.rtr_c.specs.declared.check.RtrFinding.{RtrFinding}

-- a text in two parts
both : (x y : List ℕ) (a b c : ℕ) → length x ≤ a → length y ≤ b → a + b ≤ c → length (x ++ y) ≤ c
both x y a b c h k s = omega (arith, h, k, s, length-append x y)

-- ---- names

address_room : (f : Family) → address_bytes f ≤ 16
address_room v4 = omega arith
address_room v6 = omega arith

under : (o : Option PrefixRule) (p : Payload) → length (payload_name p) ≤ 65528 →
    length (option_name (origin_under o p)) ≤ 65528
under None p h = h
under (Some rule) p h = omega arith

payload_room : (u : Fields) → Fit u → WithinLimits u →
    length (option_name (payload_named u)) ≤ 65528
payload_room (prefix_unit u) fit limits =
    let o = meant_origin u.origin in
    under _ (origin o)
    (omega (
      arith,
      address_room o.family,
      length-be o.asn 4,
      length-be o.address (address_bytes o.family),
      length-append (be o.asn 4) (be o.address (address_bytes o.family)),
    ))
payload_room (key_unit u) fit limits =
    omega (
      arith,
      limits,
      fit.identifier,
      length-be u.key.asn 4,
      length-append u.key.identifier u.key.info,
      length-append (be u.key.asn 4) (u.key.identifier ++ u.key.info),
    )
payload_room (aspa_unit u) fit limits = omega (arith, length-be u.aspa.customer 4)

fields_room : (f : AnyFields) → AnyFit f → length (unit_name f) ≤ 65528
fields_room (payload u) fit = payload_room u fit.0 fit.1
fields_room (serial_notify v s n) fit = omega arith
fields_room (serial_query v s n) fit = omega arith
fields_room (reset_query v s) fit = omega arith
fields_room (cache_response v s) fit = omega arith
fields_room (end_of_data e) fit = omega arith
fields_room (cache_reset v s) fit = omega arith
fields_room (error_report v c b) fit = omega arith

pub name_room : (unit : List ℕ) (f : AnyFields) → HasAnyFields unit f →
    length (unit_name f) ≤ 65528
name_room unit f has = fields_room f has.fits

-- ---- findings

-- a label, a number and a text
labelled : (a : List ℕ) (n k : ℕ) (b : List ℕ) (la lb m : ℕ) → 0 < k → n < 10 ^ k → n < 2 ^ 64 →
    length a ≤ la → length b ≤ lb → la + k + lb ≤ m → length (a ++ decimal n ++ b) ≤ m
labelled a n k b la lb m some small fits h i s =
    both (a ++ decimal n) b (la + k) lb m
    (both a (decimal n) la k (la + k) h (length-decimal-le k n some small fits) (omega arith)) i s

-- a byte
byte : (a : List ℕ) (n : ℕ) (b : List ℕ) (la lb m : ℕ) → n < 256 → length a ≤ la → length b ≤ lb →
    la + 3 + lb ≤ m → length (a ++ decimal n ++ b) ≤ m
byte a n b la lb m small = labelled a n 3 b la lb m (omega arith) (omega (arith, small))
    (omega (arith, small))

-- a session
session : (a : List ℕ) (n : ℕ) (b : List ℕ) (la lb m : ℕ) → n < 65536 → length a ≤ la →
    length b ≤ lb → la + 5 + lb ≤ m → length (a ++ decimal n ++ b) ≤ m
session a n b la lb m small = labelled a n 5 b la lb m (omega arith) (omega (arith, small))
    (omega (arith, small))

-- the line of a text
line : (offset : ℕ) (finding : Finding) → offset < 2 ^ 64 → length (finding_text finding) ≤ 90 →
    length (finding_line offset finding) ≤ 128
line offset finding fits h =
    both (codes "offset " ++ decimal offset ++ codes ": ") (finding_text finding) 29 90 128
    (labelled (codes "offset ") offset 20 (codes ": ") 7 2 29 (omega arith) (omega (arith, fits))
    fits (omega arith) (omega arith) (omega arith)) h (omega arith)

layout_room : (layout : Layout) → length (finding_text (rules.WithdrawnProviders layout)) ≤ 90
layout_room layout =
    both (codes "withdrawn ASPA has providers") (layout_text layout) 28 41 90 (omega arith)
    (shown layout) (omega arith) where
      shown : (layout : Layout) → length (layout_text layout) ≤ 41
      shown AsRead = omega arith
      shown LikeOlderDraft = omega arith

times_room : (rule : TimeRule) → length (finding_text (rules.Times rule)) ≤ 90
times_room times.Refresh = omega arith
times_room times.Retry = omega arith
times_room times.Expire = omega arith
times_room times.AboveRefresh = omega arith
times_room times.AboveRetry = omega arith

-- one of two
either : {A : Type 0} (P : A → Type 0) (b : Bool) (x y : A) → P x → P y → P (cond b x y)
either P true x y h k = h
either P false x y h k = k

module _ (offset : ℕ) (fits : offset < 2 ^ 64) where
  abbrev Fits : Option Finding → Type 0
  Fits o = length (told_line offset o) ≤ 128

  plain : (finding : Finding) → length (finding_text finding) ≤ 90 → Fits (Some finding)
  plain finding h = line offset finding fits h

  rule_room : (n value begun : ℕ) → value < 65536 → begun < 65536 →
      Fits (numbered_rule n value begun)
  rule_room n value begun v b =
      either Fits (n == 1) _ _
      (plain (rules.Reserved (value % 256)) (byte (codes "reserved byte ") (value % 256)
      (codes " is not zero") 14 12 90 (omega arith) (omega arith) (omega arith) (omega arith)))
      (either Fits (n == 2) _ _ (plain rules.Flags (omega arith))
      (either Fits (n == 3) _ _ (plain rules.PrefixLength (omega arith))
      (either Fits (n == 4) _ _ (plain rules.MaxLength (omega arith))
      (either Fits (n == 5) _ _ (plain rules.MaxBelow (omega arith))
      (either Fits (n == 6) _ _ (plain rules.HostBits (omega arith))
      (either Fits (n == 7) _ _
      (plain (rules.Version (value % 256) (begun % 256))
      (byte (codes "version ") (value % 256) _ 8 50 90 (omega arith) (omega arith)
      (byte (codes " differs from version ") (begun % 256) (codes " of the sequence") 22 16 50
      (omega arith) (omega arith) (omega arith) (omega arith)) (omega arith)))
      (either Fits (n == 8) _ _
      (plain (rules.Session value begun)
      (session (codes "session ") value _ 8 50 90 v (omega arith)
      (session (codes " differs from session ") begun (codes " of the answer") 22 14 50
      b (omega arith) (omega arith) (omega arith)) (omega arith)))
      (either Fits (n == 9) _ _ (plain rules.CutOff (omega arith))
      (either Fits (n == 10) _ _ (plain rules.NoAnswer (omega arith))
      (either Fits (n == 11) _ _
      (plain (rules.Lacks (value % 256)) (byte (codes "version ") (value % 256)
      (codes " has no unit of this type") 8 25 90 (omega arith) (omega arith) (omega arith)
      (omega arith)))
      (either Fits (n == 12) _ _
      (plain (rules.WithdrawnProviders (numbered_layout value))
      (layout_room (numbered_layout value)))
      (either Fits (n == 13) _ _ (plain rules.Twice (omega arith))
      (either Fits (n == 14) _ _ (plain rules.ProviderOrder (omega arith))
      (either Fits (n == 15) _ _ (plain rules.ReportParts (omega arith))
      (either Fits (n == 16) _ _ (plain rules.ReportText (omega arith))
      (either Fits (n == 17) _ _ (plain rules.ReportOfReport (omega arith))
      (either Fits (n == 18) _ _
      (plain (rules.Times (numbered_time_rule value)) (times_room (numbered_time_rule value)))
      (omega arith))))))))))))))))))

pub finding_room : (offset : ℕ) (finding : RtrFinding) → offset < 2 ^ 64 →
    finding.value < 2 ^ 16 → finding.begun < 2 ^ 16 →
    length (told_line offset (numbered_finding finding)) ≤ 128
finding_room offset finding fits v b =
    rule_room offset fits finding.rule finding.value finding.begun (omega (arith, v))
    (omega (arith, b))

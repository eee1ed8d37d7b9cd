-- What is said of a broken rule: this program's own words.
use Rattle.std.specs.Prelude.{ℕ, List, [], ◌++◌, codes, decimal}
use Rattle.session_times.specs.AllowedTimes.{rule_text}
use Rattle.text_findings.specs.declared.finding.Finding.{Finding}
use Rattle.text_findings.specs.declared.finding.Finding.TheVariants as rules
use Rattle.text_findings.specs.declared.finding.Layout.{Layout}
use Rattle.text_findings.specs.declared.finding.Layout.TheVariants.{AsRead, LikeOlderDraft}

-- what is added where the unit reads as one of an older draft too
abbrev pub layout_text : Layout → List ℕ
layout_text AsRead = []
layout_text LikeOlderDraft = codes "; looks like the layout of an older draft"

abbrev pub finding_text : Finding → List ℕ
finding_text (rules.Reserved place) =
    codes "reserved byte " ++ decimal place ++ codes " is not zero"
finding_text rules.Flags = codes "reserved bits of the flags are not zero"
finding_text rules.PrefixLength = codes "prefix length is too large"
finding_text rules.MaxLength = codes "max length is too large"
finding_text rules.MaxBelow = codes "max length is below the prefix length"
finding_text rules.HostBits = codes "host bits of the prefix are not zero"
finding_text (rules.Version version begun) =
    codes "version " ++ decimal version
    ++ (codes " differs from version " ++ decimal begun ++ codes " of the sequence")
finding_text (rules.Session session begun) =
    codes "session " ++ decimal session
    ++ (codes " differs from session " ++ decimal begun ++ codes " of the answer")
finding_text rules.CutOff = codes "answer without an end of data"
finding_text rules.NoAnswer = codes "recording without an end of data"
finding_text (rules.Lacks version) =
    codes "version " ++ decimal version ++ codes " has no unit of this type"
finding_text (rules.WithdrawnProviders layout) =
    codes "withdrawn ASPA has providers" ++ layout_text layout
finding_text rules.Twice = codes "announced twice in the sequence"
finding_text rules.ProviderOrder = codes "providers are not in ascending order"
finding_text rules.ReportParts = codes "lengths inside the error report do not fit"
finding_text rules.ReportText = codes "text of the error report is not UTF-8"
finding_text rules.ReportOfReport = codes "error report about an error report"
finding_text (rules.Times rule) = rule_text rule

-- the line of a broken rule of the unit at this offset, before its line feed
abbrev pub finding_of : ℕ → Finding → List ℕ
finding_of offset finding =
    codes "offset " ++ decimal offset ++ codes ": " ++ finding_text finding

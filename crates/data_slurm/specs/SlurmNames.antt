-- The names of the members of a SLURM file (RFC 8416 sections 3.2 to 3.4).
use Rattle.std.specs.Prelude.{ℕ, Bool, List, [], ◌∷◌, codes, bytes_eq}
use Rattle.std.specs.List.{list_any}
use Rattle.data_slurm.specs.declared.names.Form.{Form}
use Rattle.data_slurm.specs.declared.names.Form.TheVariants as forms
use Rattle.data_slurm.specs.declared.names.Group.{Group}
use Rattle.data_slurm.specs.declared.names.Group.TheVariants.{Filters, Assertions}
use Rattle.data_slurm.specs.declared.names.Kind.{Kind}
use Rattle.data_slurm.specs.declared.names.Kind.TheVariants as kinds

-- section 3.2
abbrev pub group_name : Group → List ℕ
group_name Filters = codes "validationOutputFilters"
group_name Assertions = codes "locallyAddedAssertions"

-- the two arrays of each (sections 3.3 and 3.4)
abbrev pub first_kind : Group → Kind
first_kind Filters = kinds.PrefixFilter
first_kind Assertions = kinds.PrefixAssertion

abbrev pub second_kind : Group → Kind
second_kind Filters = kinds.KeyFilter
second_kind Assertions = kinds.KeyAssertion

abbrev pub array_name : Kind → List ℕ
array_name kinds.PrefixFilter = codes "prefixFilters"
array_name kinds.KeyFilter = codes "bgpsecFilters"
array_name kinds.PrefixAssertion = codes "prefixAssertions"
array_name kinds.KeyAssertion = codes "bgpsecAssertions"

-- the members that an item of the array may have (sections 3.3.1, 3.3.2, 3.4.1 and 3.4.2)
abbrev pub item_members : Kind → List (List ℕ)
item_members kinds.PrefixFilter = codes "prefix" ∷ codes "asn" ∷ codes "comment" ∷ []
item_members kinds.KeyFilter = codes "asn" ∷ codes "SKI" ∷ codes "comment" ∷ []
item_members kinds.PrefixAssertion =
    codes "prefix" ∷ codes "asn" ∷ codes "maxPrefixLength" ∷ codes "comment" ∷ []
item_members kinds.KeyAssertion =
    codes "asn" ∷ codes "SKI" ∷ codes "routerPublicKey" ∷ codes "comment" ∷ []

-- the members that an object may have, and no others (section 3.2)
abbrev pub form_members : Form → List (List ℕ)
form_members forms.File =
    codes "slurmVersion" ∷ codes "validationOutputFilters" ∷ codes "locallyAddedAssertions" ∷ []
form_members (forms.Group Filters) = codes "prefixFilters" ∷ codes "bgpsecFilters" ∷ []
form_members (forms.Group Assertions) = codes "prefixAssertions" ∷ codes "bgpsecAssertions" ∷ []
form_members (forms.Item kind) = item_members kind

abbrev pub may_have : Form → List ℕ → Bool
may_have form name = list_any (λ n. bytes_eq n name) (form_members form)

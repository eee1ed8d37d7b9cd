-- What is fit stays so.
use Rattle.std.proofs.Common.{◌≡◌, List, Ok, subst}
use Rattle.std.specs.BTreeMap.{is_at}
use Rattle.std.specs.Set.{remove_key}
use Rattle.rtr_base.specs.declared.action.Action.TheVariants.{Announce}
use Rattle.rtr_payload.specs.Payloads.{Payload}
use Rattle.data_memory.specs.Contents.{AreFit, IsFit}
use Rattle.data_memory.specs.Data.{changed, name_cmp}
use Rattle.data_memory.proofs.Changes.{announced_is}
use Rattle.data_memory.proofs.Membership.{all_remove, all_replace}

pub announced_fit : (p : Payload) (d e : List Payload) → AreFit d → IsFit p →
    changed Announce p d ≡ Ok e → AreFit e
announced_fit p d e a h is =
    subst (λ l. AreFit l) (announced_is p d e is) (all_replace (λ q. IsFit q) p h d a)

pub gone_fit : (p : Payload) (d e : List Payload) → AreFit d →
    remove_key (is_at (name_cmp p)) d ≡ e → AreFit e
gone_fit p d e a is =
    subst (λ l. AreFit l) is (all_remove (λ q. IsFit q) (is_at (name_cmp p)) d a)

-- The statement holds of every order with the laws of a policy, and the laws hold of the policy at hand.
use Rattle.policy.proofs.OneChoice.{one_choice}
use Rattle.policy.proofs.choice.one_choice.Goals as goal

pub returns : goal.returns
returns g c = one_choice _ (g.met.P.Policy.ordered c.args._policy.now)

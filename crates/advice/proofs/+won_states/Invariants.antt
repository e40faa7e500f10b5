-- `advice::won_states` meets its contract: it calls itself with one element less open.
use Rattle.advice.proofs.+won_states.Given as goal

abbrev pub decreases-won_states : goal.decreases-won_states
decreases-won_states l = l.kept.depth

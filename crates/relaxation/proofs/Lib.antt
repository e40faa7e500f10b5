-- Pairs, sets of pairs, least numbers, images of masks
pub mod PairLaws
pub mod GainsLaws
pub mod LeastLaws
pub mod ImageLaws
-- Lengths are relaxed: one by one and turn by turn, over a pair and around an inside
pub mod Relaxing
pub mod OneRelaxed
pub mod BitsRelaxed
pub mod RelaxTurns
pub mod JoinLaws
pub mod AroundLaws

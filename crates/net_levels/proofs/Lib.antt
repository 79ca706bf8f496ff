pub mod SourceLemmas
pub mod SettleLemmas
pub mod LevelLemmas
pub mod AcyclicLemmas
pub mod RankLemmas

-- What crates above cite of the demands and the examples.
pub use Rattle.demands.proofs.Demands.{build_meets2, premises_room, run_meets3, run_meets2, run_steps_add}
pub use Rattle.demands.proofs.Demands.{run_formula, expand_meets2, expand_steps_add}
pub use Rattle.demands.proofs.Demands.{run_depth, expand_depth}
pub use Rattle.demands.proofs.Kept.{premises_exact, EndsRun, RunBegins, stackless, begins, run_ends, run_begins}
pub use Rattle.demands.proofs.AnyTable.{ends_told, ends_steps}
pub use Rattle.demands.proofs.Formula.{short_undecided}
pub use Rattle.demands.proofs.ChainExample.{Tested}
unfoldable pub use Rattle.demands.proofs.ChainExample.{built_tested}
pub use Rattle.demands.proofs.Demands.{run_depth_exactly, run_depth_least, run_depth_enough}
pub use Rattle.demands.proofs.Demands.{expand_depth_exactly, expand_depth_least, expand_depth_enough}
pub use Rattle.demands.proofs.Depth.{run_deep_counted, expansion_deep_counted}
pub use Rattle.demands.proofs.PassedTables.{passed_premises, passed_run_meets3}
pub use Rattle.demands.proofs.House.{house_premises}
pub use Rattle.demands.proofs.Examples.{examples_allowed}

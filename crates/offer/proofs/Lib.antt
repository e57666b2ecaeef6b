-- Laws of ask. From the ground up.
pub mod PlanLaws
pub mod AskLaws

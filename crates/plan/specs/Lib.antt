-- Records by value as the definitions see them.
pub mod PlanView

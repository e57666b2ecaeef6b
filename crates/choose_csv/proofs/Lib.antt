-- What a read brought, case by case.
pub mod TurnLaws

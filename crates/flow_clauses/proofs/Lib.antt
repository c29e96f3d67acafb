pub mod Turns
pub mod TwoMore
pub mod Tops
pub mod StackLaws
pub mod CallLaws
pub mod FlowLaws
pub mod FlowTableLaws

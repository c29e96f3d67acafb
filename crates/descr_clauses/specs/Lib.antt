pub mod DescriptorClauses
pub mod DescrTable

pub mod DescrLaws

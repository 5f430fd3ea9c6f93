pub mod AllPremises

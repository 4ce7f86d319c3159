pub mod EventArms

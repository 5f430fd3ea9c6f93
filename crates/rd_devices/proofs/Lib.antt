pub mod DeviceListLemmas
pub mod RemovalLemmas
pub mod DeviceReplyLemmas
pub mod PrinterInfoLemmas

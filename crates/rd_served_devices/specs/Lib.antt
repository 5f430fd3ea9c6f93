pub mod ServedDevices

-- What contracts say of the services behind `syscall`.
pub mod Comparing
pub mod Pending
pub mod Lists
pub mod Ends
pub mod Numbers
pub mod Services
pub mod Served
pub mod Laws

pub mod Told
pub mod FolderCalls
pub mod FolderLaws
pub mod FolderOpens
pub mod InMemory
pub mod OneName

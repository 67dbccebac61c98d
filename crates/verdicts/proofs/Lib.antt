mod Filling
mod Paging
mod Telling

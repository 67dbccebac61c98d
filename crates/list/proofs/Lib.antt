mod Aligning
mod Listing

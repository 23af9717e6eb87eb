mod Trails
mod FarUrls
mod Fields
mod Entries

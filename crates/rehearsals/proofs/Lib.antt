mod Told
mod Sheets
mod Rehearsals

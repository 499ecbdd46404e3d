mod Checked
mod Firsts

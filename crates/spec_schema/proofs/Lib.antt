mod PathTexts
mod Firsts
mod InOrder

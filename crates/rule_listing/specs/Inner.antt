pub mod KeptTexts

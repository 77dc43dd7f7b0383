pub mod ExpressionTexts

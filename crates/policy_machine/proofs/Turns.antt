-- Turns one after the other: that the first is right, and that those after it are.
infixr 5 ◌then◌
pub ◌then◌ : {First Rest : Type 0} → First → Rest → First × Rest
first then rest = (first, rest)

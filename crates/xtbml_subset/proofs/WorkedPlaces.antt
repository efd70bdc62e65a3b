-- Worked rows of the place up to which a file nests.
use Rattle.xtbml_subset.proofs.Names.{◌∷◌, refl, codes, IsLongestNested, piece_at, marked_at, tag_at, name_at, attributes_from, attribute_at, spaces_at, quoted_at, closed_at, end_tag_at, comment_at, declaration_at, fault_at, walk_from}
use Rattle.xtbml_subset.proofs.Sounding.{longest_nested}

-- an end tag of another name
crossed : IsLongestNested (codes "<XTbML></Table>") 7
unfolding fault_at walk_from piece_at marked_at tag_at name_at attributes_from attribute_at spaces_at quoted_at closed_at end_tag_at comment_at declaration_at
crossed = longest_nested (codes "<XTbML></Table>") 7 refl

-- a tag after the end of the root
two_roots : IsLongestNested (codes "<A/> <B/>") 5
unfolding fault_at walk_from piece_at marked_at tag_at name_at attributes_from attribute_at spaces_at quoted_at closed_at end_tag_at comment_at declaration_at
two_roots = longest_nested (codes "<A/> <B/>") 5 refl

-- text outside the root
stray : IsLongestNested (codes "<A></A>x") 7
unfolding fault_at walk_from piece_at marked_at tag_at name_at attributes_from attribute_at spaces_at quoted_at closed_at end_tag_at comment_at declaration_at
stray = longest_nested (codes "<A></A>x") 7 refl

-- a declaration after a comment
late : IsLongestNested (codes "<!----><?xml v?><A/>") 7
unfolding fault_at walk_from piece_at marked_at tag_at name_at attributes_from attribute_at spaces_at quoted_at closed_at end_tag_at comment_at declaration_at
late = longest_nested (codes "<!----><?xml v?><A/>") 7 refl

-- EF BB BF once more
marked_twice : IsLongestNested (239 ∷ 187 ∷ 191 ∷ 239 ∷ 187 ∷ 191 ∷ codes "<A/>") 3
unfolding fault_at walk_from piece_at marked_at tag_at name_at attributes_from attribute_at spaces_at quoted_at closed_at end_tag_at comment_at declaration_at
marked_twice = longest_nested (239 ∷ 187 ∷ 191 ∷ 239 ∷ 187 ∷ 191 ∷ codes "<A/>") 3 refl

-- a file that stops before the end of its root
unended : IsLongestNested (codes "<A><B/>") 7
unfolding fault_at walk_from piece_at marked_at tag_at name_at attributes_from attribute_at spaces_at quoted_at closed_at end_tag_at comment_at declaration_at
unended = longest_nested (codes "<A><B/>") 7 refl

mod PatternLaws

mod BuildLaws
mod TestLaws

mod CellLaws

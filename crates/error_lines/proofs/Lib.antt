mod ErrorLineLaws
